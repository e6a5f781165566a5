-- What other crates cite of this one's proofs.
pub use Rattle.j2k_sources.proofs.Listed.{sources_differ}
pub use Rattle.j2k_sources.proofs.Once.{loaded_once}

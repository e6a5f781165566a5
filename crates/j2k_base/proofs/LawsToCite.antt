-- What other crates cite of this one's proofs.
pub use Rattle.j2k_base.proofs.Lists.{stripped_is, stripped_of}

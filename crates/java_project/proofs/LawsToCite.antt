-- What other crates cite of this one's proofs.
pub use Rattle.java_project.proofs.Once.{apart, no_fault, no_tokens, one_unit, refused_once, same_tokens, spelled_once, spelling_fault_once, token_fault_once, unit_apart, unit_paths}

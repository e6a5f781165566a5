-- What other crates cite of this one's proofs.
pub use Rattle.java_names.proofs.Once.{not_both, one_refusal}

-- What other crates cite of this one's proofs.
pub use Rattle.java_taken.proofs.Taken.{taken, may_be_named}

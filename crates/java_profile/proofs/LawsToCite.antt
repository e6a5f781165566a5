-- What other crates cite of this one's proofs.
pub use Rattle.java_profile.proofs.Unset.{none_unset}

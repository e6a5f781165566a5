-- What other crates cite of this one's proofs.
pub use Rattle.java_typing.proofs.Told.{told}

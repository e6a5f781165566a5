-- What other crates cite of this one's proofs.
pub use Rattle.java_lexer.proofs.Cuts.{reading_once}

-- What other crates cite of this one's proofs.
pub use Rattle.kotlin_lexer.proofs.Cuts.{reading_once}

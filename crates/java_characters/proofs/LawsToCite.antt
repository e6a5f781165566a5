-- What other crates cite.
pub use Rattle.java_characters.proofs.Utf8.{encoded}

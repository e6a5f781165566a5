-- What other crates cite of this one's proofs.
pub use Rattle.java_type_parser.proofs.Rules.{length_shown}

-- What other crates cite of this one's proofs.
pub use Rattle.java_parser.proofs.Judging.{no_unit, same_told, same_unit}

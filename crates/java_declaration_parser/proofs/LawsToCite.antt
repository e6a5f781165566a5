-- What other crates cite of this one's proofs.
pub use Rattle.java_declaration_parser.proofs.Rules.{lists, whole_end, whole_more, wholes}

-- What other crates may cite.
pub use Rattle.kotlin_canonical_text.proofs.Derived.{type_derived, expression_derived, block_derived}
pub use Rattle.kotlin_canonical_text.proofs.Names.{is_ident, name_ident}
pub use Rattle.kotlin_canonical_text.proofs.Classes.{class_spelled}
pub use Rattle.kotlin_canonical_text.proofs.Heads.{class_apart, head_spelled}

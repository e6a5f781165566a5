-- What other crates cite of this one's proofs.
pub use Rattle.java_expr_printer.proofs.Expanded.{expanded_joins, expanded_more, expanded_none, kind_plain, seen_plain, written_texts}
pub use Rattle.java_expr_printer.proofs.Joins.{joins}

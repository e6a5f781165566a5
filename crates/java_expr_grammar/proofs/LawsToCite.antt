-- What other crates cite of this one's proofs.
pub use Rattle.java_expr_grammar.proofs.Completeness.{after, again, args_again, bound_pos, level_small}
pub use Rattle.java_expr_grammar.proofs.ExprParts.{parts as expr_parts}
pub use Rattle.java_expr_grammar.proofs.ExprTexts.{texts}
pub use Rattle.java_expr_grammar.proofs.First.{Any, First, Named, any, dotted_past, first, further, longer, names, starts, tokens_out, type_tokens_out, typed_named}
pub use Rattle.java_expr_grammar.proofs.Lists
pub use Rattle.java_expr_grammar.proofs.Parts.{deepest_more, depth_Applied, depth_Array, depth_Class, depth_Primitive, one_more, parts as type_parts}
pub use Rattle.java_expr_grammar.proofs.Seen.{length_seen, seen_more, seen_none}
pub use Rattle.java_expr_grammar.proofs.Soundness.{args_sound, close_only, colon_only, sound}
pub use Rattle.java_expr_grammar.proofs.Theorem.{is_read, is_spelled}
pub use Rattle.java_expr_grammar.proofs.Tools.{bind_some, both_true, cond_is, guard_some, maybe_is, some_same}
pub use Rattle.java_expr_grammar.proofs.TypeLaws.{EndsType, begins_less, begins_member, closes_again, closes_only, ident_only, qualified_again, qualified_sound, type_again, type_sound, typed_again, typed_sound}
pub use Rattle.java_expr_grammar.proofs.TypeTexts.{types}

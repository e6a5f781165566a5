-- What other crates cite.
pub use Rattle.kotlin_layout.proofs.Forms.{types, expressions, statements, members, expression_is, placed_map, choice_is, branch_is, catch_is, member_Property, member_Init, member_Function, member_Constructor, member_Companion}
pub use Rattle.kotlin_layout.proofs.Laying.{laid_nil, laid_cons, laid_append, walks, is_nil, one_more, each_more, line_more, glyph_more, twice}

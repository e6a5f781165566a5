-- What other crates cite of this one's proofs.
pub use Rattle.java_unit_grammar.proofs.Completeness.{agains}
pub use Rattle.java_unit_grammar.proofs.Cuts.{found}
pub use Rattle.java_unit_grammar.proofs.MemberCompleteness.{Begins_by, Layer, bodied_again, constants_again, curly_declared, declared_again, declared_goes, fits_precede, member_begins}
pub use Rattle.java_unit_grammar.proofs.MemberSoundness.{ConstantsAre, MemberIs, bodied_sound, constants_sound, declared_sound}
pub use Rattle.java_unit_grammar.proofs.Monotone.{all_wider}
pub use Rattle.java_unit_grammar.proofs.Quiet.{curly_past, declared_past, head_is_type, head_quiet, member_no_type, member_quiet}
pub use Rattle.java_unit_grammar.proofs.Soundness.{sounds}
pub use Rattle.java_unit_grammar.proofs.StatementSoundness.{close_curly_only, open_curly_only}
pub use Rattle.java_unit_grammar.proofs.Texts.{out_member, tokens_Block, tokens_Bodied, tokens_Declared, tokens_Do, tokens_For, tokens_If, tokens_IfElse, tokens_Labeled, tokens_Members, tokens_Simple, tokens_Statements, tokens_Switch, tokens_Synchronized, tokens_Try, tokens_TryFinally, tokens_Type, tokens_While}
pub use Rattle.java_unit_grammar.proofs.Whole.{nested_tops, parts_are_read, unit_is_read, unit_is_spelled, units_one}

-- What other crates cite of this one's proofs.
pub use Rattle.java_statement_grammar.proofs.Declared.{declarator_sound, names_again, names_end}
pub use Rattle.java_statement_grammar.proofs.Labels.{lock_is_read, lock_is_spelled, switch_is_read, switch_is_spelled}
pub use Rattle.java_statement_grammar.proofs.Loops.{for_is_read, for_is_spelled, semicolon_only}
pub use Rattle.java_statement_grammar.proofs.Simple.{simple_is_read, simple_is_spelled}
pub use Rattle.java_statement_grammar.proofs.Whole.{read_again, read_sound, three, whole_only}

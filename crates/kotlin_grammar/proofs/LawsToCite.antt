-- The laws of the Kotlin grammar: one kind ahead decides each form, whatever its actions are; a piece is read as what it spells,
-- and spells one tree at most.
pub use Rattle.kotlin_grammar.proofs.Decided.{certificate, chosen, closed, followed, owned, heavy}
pub use Rattle.kotlin_grammar.proofs.Decides.{decided, good_head, good_class}
pub use Rattle.kotlin_grammar.proofs.Pieces.{letters_length, made, makes, class_read, class_spelled, one_class, head_read, head_spelled, one_head}
pub use Rattle.kotlin_grammar.proofs.Spelled.{pieces_read, pieces_spelled, one_file}

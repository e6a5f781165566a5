use Rattle.std.proofs.Common.{◌≡◌, ◌-◌, length}
use Rattle.kotlin_characters.specs.Letters.{letters, IsFrom}
use Rattle.kotlin_lexer.specs.Literals.{string_at, string_piece}
use Rattle.kotlin_lexer.proofs.literals.string_piece.Given as goal

abbrev pub invariant-letters : goal.invariant-letters
invariant-letters l = record {
  value : string_at l.position 0 l.units (letters l.bytes l.next) ≡ string_piece l.position (letters l.bytes l.fn.at);
  next : IsFrom l.bytes l.fn.at l.next;
}

abbrev pub decreases-letters : goal.decreases-letters
decreases-letters l = length l.bytes - l.next.position.offset

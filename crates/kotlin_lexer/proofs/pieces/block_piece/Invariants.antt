use Rattle.std.proofs.Common.{◌≡◌, ◌-◌, ◌≤◌, length}
use Rattle.kotlin_characters.specs.Letters.{letters, IsFrom}
use Rattle.kotlin_lexer.specs.Pieces.{block_piece}
use Rattle.kotlin_lexer.proofs.pieces.block_piece.Given as goal

abbrev pub invariant-letters : goal.invariant-letters
invariant-letters l = record {
  value : block_piece l.position 0 l.depth (letters l.bytes l.next) ≡ block_piece l.position 0 0 (letters l.bytes l.fn.at);
  few : l.depth ≤ l.next.position.offset;
  next : IsFrom l.bytes l.fn.at l.next;
}

abbrev pub decreases-letters : goal.decreases-letters
decreases-letters l = length l.bytes - l.next.position.offset

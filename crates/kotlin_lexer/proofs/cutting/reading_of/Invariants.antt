use Rattle.std.proofs.Common.{length, reverse, ◌≤◌, ◌-◌}
use Rattle.kotlin_characters.specs.Letters.{letters, text_of, IsAt}
use Rattle.kotlin_lexer.proofs.Cuts.{GoesOn}
use Rattle.kotlin_lexer.proofs.cutting.reading_of.Given as goal

abbrev pub invariant-pieces : goal.invariant-pieces
invariant-pieces l = record {
  at : IsAt l.bytes l.at;
  few : length l.taken.tokens ≤ l.at.position.offset;
  goes_on : GoesOn (text_of l.bytes) (letters l.bytes l.at) l.taken.tokens (reverse l.taken.opened.items) l.taken.gap;
}

abbrev pub decreases-pieces : goal.decreases-pieces
decreases-pieces l = length l.bytes - l.at.position.offset

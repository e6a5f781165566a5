use Rattle.std.proofs.Common.{length, ◌≤◌, ◌-◌}
use Rattle.java_characters.specs.Letters.{letters, text_of, IsAt}
use Rattle.java_lexer.proofs.Cuts.{GoesOn}
use Rattle.java_lexer.proofs.cutting.reading_of.Given as goal

abbrev pub invariant-pieces : goal.invariant-pieces
invariant-pieces l = record {
  at : IsAt l.bytes l.at;
  few : length l.tokens ≤ l.at.position.offset;
  goes_on : GoesOn (text_of l.bytes) l.before (letters l.bytes l.at) l.tokens l.comments;
}

abbrev pub decreases-pieces : goal.decreases-pieces
decreases-pieces l = length l.bytes - l.at.position.offset

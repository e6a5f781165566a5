use Rattle.std.proofs.Common.{◌≡◌, ◌+◌, length}
use Rattle.java_token_cursor.specs.Shown.{shown}
use Rattle.java_body_cuts.specs.Looks.{curly_count}
use Rattle.java_body_cuts.proofs.ahead.curly_count.Given as goal

abbrev pub invariant-ahead : goal.invariant-ahead
invariant-ahead l = record {
  same : l.count + curly_count (shown l.rest) ≡ curly_count (shown l.fn.pieces);
  left : l.count + length l.rest ≡ length l.fn.pieces;
}

abbrev pub decreases-ahead : goal.decreases-ahead
decreases-ahead l = length l.rest

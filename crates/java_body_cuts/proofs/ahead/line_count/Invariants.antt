use Rattle.std.proofs.Common.{◌≡◌, ◌+◌, length}
use Rattle.java_token_cursor.specs.Shown.{shown}
use Rattle.java_body_cuts.specs.Looks.{line_count}
use Rattle.java_body_cuts.proofs.ahead.line_count.Given as goal

abbrev pub invariant-ahead : goal.invariant-ahead
invariant-ahead l = record {
  same : l.count + line_count (shown l.rest) ≡ line_count (shown l.fn.pieces);
  left : l.count + length l.rest ≡ length l.fn.pieces;
}

abbrev pub decreases-ahead : goal.decreases-ahead
decreases-ahead l = length l.rest

use Rattle.std.proofs.Common.{◌≡◌, ◌≤◌, ◌+◌, length}
use Rattle.java_token_cursor.specs.Bodies.{closing}
use Rattle.java_token_cursor.specs.Shown.{shown}
use Rattle.java_body_cuts.proofs.bodies.closing.Given as goal

abbrev pub invariant-loop-turn : goal.invariant-loop-turn
invariant-loop-turn l = record {
  same : closing 0 (shown l.pieces) ≡ closing l.depth (shown l.rest);
  within : l.depth ≤ l._turn;
  left : length l.rest + l._turn ≡ length l.pieces;
}

use Rattle.std.proofs.Common.{◌≡◌, ◌≤◌, ◌+◌, length}
use Rattle.java_tree.specs.Seen.{seen}
use Rattle.java_token_cursor.specs.Bodies.{closing}
use Rattle.java_token_cursor.proofs.bodies.closing.Given as goal

abbrev pub invariant-loop-token : goal.invariant-loop-token
invariant-loop-token l = record {
  same : closing l.depth (seen l.rest) ≡ closing 0 (seen l.fn.tokens);
  within : l.depth + length l.rest ≤ length l.fn.tokens;
}

abbrev pub decreases-loop-token : goal.decreases-loop-token
decreases-loop-token l = length l.rest

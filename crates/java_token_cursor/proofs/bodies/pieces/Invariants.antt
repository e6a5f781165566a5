use Rattle.std.proofs.Common.{◌≡◌, ◌≤◌, ◌++◌, length}
use Rattle.java_tree.specs.Seen as t
use Rattle.java_tree.specs.Seen.{seen}
use Rattle.java_token_cursor.specs.Shown.{shown}
use Rattle.java_token_cursor.proofs.bodies.pieces.Given as goal

abbrev pub invariant-loop-token : goal.invariant-loop-token
invariant-loop-token l = record {
  same : shown l.found.items ++ t.pieces l.end (seen l.rest) ≡ t.pieces l.end (seen l.fn.tokens);
  within : length l.rest ≤ length l.fn.tokens;
}

abbrev pub decreases-loop-token : goal.decreases-loop-token
decreases-loop-token l = length l.rest

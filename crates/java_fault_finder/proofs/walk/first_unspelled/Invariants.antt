use Rattle.std.proofs.Common.{◌≤◌, ◌+◌, ◌*◌, length}
use Rattle.java_token_cursor.specs.Shown.{shown}
use Rattle.java_fault_finder.specs.Walks.{room, state_seen}
use Rattle.java_fault_finder.proofs.Passing.{Led}
use Rattle.java_fault_finder.proofs.walk.first_unspelled.Given as goal

abbrev pub invariant-loop-rest : goal.invariant-loop-rest
invariant-loop-rest l = record {
  led : Led (shown l.pieces) (state_seen l.state) (shown l.rest);
  within : length l.rest + room (state_seen l.state).spot ≤ length l.pieces;
}

abbrev pub decreases-loop-rest : goal.decreases-loop-rest
decreases-loop-rest l = 2 * length l.rest + room (state_seen l.state).spot

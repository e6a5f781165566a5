use Rattle.std.proofs.Common.{◌≡◌, ◌++◌, length}
use Rattle.java_token_cursor.specs.Shown.{shown}
use Rattle.java_unit_grammar.specs.Standing.{spans}
use Rattle.java_body_cuts.proofs.ahead.spans.Given as goal

abbrev pub invariant-loop-piece : goal.invariant-loop-piece
invariant-loop-piece l = l.found.items ++ spans (shown l.rest) ≡ spans (shown l.fn.pieces)

abbrev pub decreases-loop-piece : goal.decreases-loop-piece
decreases-loop-piece l = length l.rest

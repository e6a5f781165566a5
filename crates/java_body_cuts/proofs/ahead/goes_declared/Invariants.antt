use Rattle.std.proofs.Common.{◌≡◌, length}
use Rattle.java_token_cursor.specs.Shown.{shown}
use Rattle.java_unit_grammar.specs.Reading.{goes_declared}
use Rattle.java_body_cuts.proofs.ahead.goes_declared.Given as goal

abbrev pub invariant-ahead : goal.invariant-ahead
invariant-ahead l = goes_declared (shown l.pieces) ≡ goes_declared (shown l.fn.pieces)

abbrev pub decreases-ahead : goal.decreases-ahead
decreases-ahead l = length l.pieces

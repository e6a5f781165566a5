use Rattle.std.proofs.Common.{◌≡◌, length}
use Rattle.java_token_cursor.specs.Shown.{shown}
use Rattle.java_unit_grammar.specs.Reading.{goes_type}
use Rattle.java_body_cuts.proofs.ahead.goes_type.Given as goal

abbrev pub invariant-ahead : goal.invariant-ahead
invariant-ahead l = goes_type (shown l.pieces) ≡ goes_type (shown l.fn.pieces)

abbrev pub decreases-ahead : goal.decreases-ahead
decreases-ahead l = length l.pieces

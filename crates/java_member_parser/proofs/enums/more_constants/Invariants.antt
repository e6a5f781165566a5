use Rattle.std.proofs.Common.{◌≡◌, ◌-◌, length}
use Rattle.java_token_cursor.specs.Shown.{shown}
use Rattle.java_expr_grammar.specs.Reading as r
use Rattle.java_member_grammar.specs.Reading as m
use Rattle.java_member_parser.proofs.enums.more_constants.Given as goal

abbrev pub invariant-loop-turn : goal.invariant-loop-turn
invariant-loop-turn l = r.more_by m.comma_name (m.constant l.depth) (length l.fn.pieces) l.fn.found.items l.fn.found.commas (shown l.fn.pieces) ≡ r.more_by m.comma_name (m.constant l.depth) (l._turn-end - l._turn) l.found.items l.found.commas (shown l.pieces)

use Rattle.std.proofs.Common.{◌≡◌, ◌-◌, length}
use Rattle.java_token_cursor.specs.Shown.{shown}
use Rattle.java_expr_grammar.specs.Reading as r
use Rattle.java_type_parser.proofs.params.more_params.Given as goal

abbrev pub invariant-loop-turn : goal.invariant-loop-turn
invariant-loop-turn l = r.more_by r.comma r.ident (length l.fn.pieces) l.fn.found.items l.fn.found.commas (shown l.fn.pieces) ≡ r.more_by r.comma r.ident (l._turn-end - l._turn) l.found.items l.found.commas (shown l.pieces)

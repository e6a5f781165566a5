use Rattle.std.proofs.Common.{◌≡◌, length}
use Rattle.java_token_cursor.specs.Shown.{shown}
use Rattle.java_expr_grammar.specs.Reading as r
use Rattle.java_type_parser.proofs.names.after_dotted.Given as goal

abbrev pub invariant-loop-next : goal.invariant-loop-next
invariant-loop-next l = (r.dotted (shown l.fn.pieces)).1 ≡ (r.dotted (shown l.pieces)).1

abbrev pub decreases-loop-next : goal.decreases-loop-next
decreases-loop-next l = length (shown l.pieces)

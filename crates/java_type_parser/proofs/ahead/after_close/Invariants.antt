use Rattle.std.proofs.Common.{◌≡◌, ◌≤◌, ◌+◌, length}
use Rattle.java_token_cursor.specs.Shown.{shown}
use Rattle.java_expr_grammar.specs.Reading as r
use Rattle.java_type_parser.proofs.ahead.after_close.Given as goal

abbrev pub invariant-loop-turn : goal.invariant-loop-turn
invariant-loop-turn l = record {
  same : r.after_close 0 (shown l.pieces) ≡ r.after_close l.depth (shown l.rest);
  within : l.depth ≤ l._turn;
  left : length l.rest + l._turn ≡ length l.pieces;
}

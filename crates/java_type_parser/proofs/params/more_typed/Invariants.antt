use Rattle.std.proofs.Common.{◌≡◌, ◌≤◌, ◌-◌, length, map}
use Rattle.java_token_cursor.specs.Shown.{shown}
use Rattle.java_tree.specs.Trees.{typed_depth, deepest}
use Rattle.java_expr_grammar.specs.Reading as r
use Rattle.java_type_parser.proofs.params.more_typed.Given as goal

abbrev pub invariant-loop-turn : goal.invariant-loop-turn
invariant-loop-turn l = record {
  same : r.more_by r.comma (r.typed_read l.depth) (length l.fn.pieces) l.fn.found.items l.fn.found.commas (shown l.fn.pieces) ≡ r.more_by r.comma (r.typed_read l.depth) (l._turn-end - l._turn) l.found.items l.found.commas (shown l.pieces);
  deepest : l.found.deepest ≡ deepest (map typed_depth l.found.items);
  within : l.found.deepest ≤ l.depth;
}

use Rattle.std.proofs.Common.{◌≡◌, ◌≤◌, ◌+◌, length, ◌-◌, ◌*◌, map}
use Rattle.java_token_cursor.specs.Shown.{shown}
use Rattle.java_tree.specs.Trees.{type_depth, deepest}
use Rattle.java_expr_grammar.specs.Reading as r
use Rattle.java_type_parser.proofs.types.+types.Given as goal

abbrev pub decreases-read_type : goal.decreases-read_type
decreases-read_type l = 8 * l.depth

abbrev pub decreases-more_types : goal.decreases-more_types
decreases-more_types l = 8 * l.depth + 1

abbrev pub decreases-some_types : goal.decreases-some_types
decreases-some_types l = 8 * l.depth + 2

abbrev pub decreases-applied : goal.decreases-applied
decreases-applied l = 8 * l.depth + 3

abbrev pub decreases-class : goal.decreases-class
decreases-class l = 8 * l.depth + 4

abbrev pub decreases-base_step : goal.decreases-base_step
decreases-base_step l = 8 * l.depth + 5

abbrev pub invariant-more_types-loop-turn : goal.invariant-more_types-loop-turn
invariant-more_types-loop-turn l = record {
  same : r.more_by r.comma (r.type_read l.depth) (length l.fn.pieces) l.fn.found.items l.fn.found.commas (shown l.fn.pieces) ≡ r.more_by r.comma (r.type_read l.depth) (l._turn-end - l._turn) l.found.items l.found.commas (shown l.pieces);
  deepest : l.found.deepest ≡ deepest (map type_depth l.found.items);
  within : l.found.deepest ≤ l.depth;
}

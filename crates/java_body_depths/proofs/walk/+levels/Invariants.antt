use Rattle.std.proofs.Common.{◌≡◌, ◌≤◌, ◌+◌, ◌*◌, ◌++◌, length, map, max}
use Rattle.java_tree.specs.Trees as s
use Rattle.java_unit_grammar.specs.Levels.{list_levels}
use Rattle.java_body_depths.specs.Parts.{raised}
use Rattle.java_body_depths.proofs.walk.+levels.Given as goal

abbrev pub decreases-push_levels : goal.decreases-push_levels
decreases-push_levels l = 4 * s.depth l.x.now + 1

abbrev pub decreases-push_parts : goal.decreases-push_parts
decreases-push_parts l = 4 * s.depth l.x.now

abbrev pub decreases-push_two : goal.decreases-push_two
decreases-push_two l = 4 * max (s.depth l.left.now) (s.depth l.right.now) + 2

abbrev pub decreases-push_three : goal.decreases-push_three
decreases-push_three l = 4 * max (s.depth l.left.now) (max (s.depth l.middle.now) (s.depth l.right.now)) + 3

abbrev pub decreases-push_call : goal.decreases-push_call
decreases-push_call l = 4 * max (s.depth l.left.now) (s.deepest (map s.depth l.items.now)) + 3

abbrev pub decreases-push_list : goal.decreases-push_list
decreases-push_list l = 4 * s.deepest (map s.depth l.items.now) + 2

abbrev pub invariant-push_list-loop-items : goal.invariant-push_list-loop-items
invariant-push_list-loop-items l = record {
  same : l.found.items ++ raised (length l.path.items) (list_levels l.items) ≡ l.fn.found.items ++ raised (length l.fn.path.items) (list_levels l.fn.items);
  path : l.path.items ≡ l.fn.path.items;
  within : s.deepest (map s.depth l.items) ≤ s.deepest (map s.depth l.fn.items);
}

abbrev pub decreases-push_list-loop-items : goal.decreases-push_list-loop-items
decreases-push_list-loop-items l = length l.items

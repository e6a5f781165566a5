use Rattle.std.proofs.Common.{◌≡◌, ◌++◌, length, map}
use Rattle.java_unit_grammar.specs.Levels.{all_levels, constant_levels}
use Rattle.java_body_depths.specs.Parts.{raised}
use Rattle.java_body_depths.proofs.heads.push_constants.Given as goal

abbrev pub invariant-loop-items : goal.invariant-loop-items
invariant-loop-items l = record {
  same : l.found.items ++ raised (length l.path.items) (all_levels (map constant_levels l.items)) ≡ l.fn.found.items ++ raised (length l.fn.path.items) (all_levels (map constant_levels l.fn.items));
  path : l.path.items ≡ l.fn.path.items;
}

abbrev pub decreases-loop-items : goal.decreases-loop-items
decreases-loop-items l = length l.items

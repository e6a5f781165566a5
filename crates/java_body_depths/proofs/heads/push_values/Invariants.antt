use Rattle.std.proofs.Common.{◌≡◌, ◌++◌, length, map}
use Rattle.java_unit_grammar.specs.Levels.{all_levels}
use Rattle.java_unit_grammar.specs.Standing.{initial_levels}
use Rattle.java_body_depths.specs.Parts.{raised}
use Rattle.java_body_depths.proofs.heads.push_values.Given as goal

abbrev pub invariant-loop-names : goal.invariant-loop-names
invariant-loop-names l = record {
  same : l.found.items ++ raised (length l.path.items) (all_levels (map initial_levels l.names)) ≡ l.fn.found.items ++ raised (length l.fn.path.items) (all_levels (map initial_levels l.fn.names));
  path : l.path.items ≡ l.fn.path.items;
}

abbrev pub decreases-loop-names : goal.decreases-loop-names
decreases-loop-names l = length l.names

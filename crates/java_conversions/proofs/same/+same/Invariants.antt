use Rattle.std.proofs.Common.{◌≡◌, map, drop}
use Rattle.java_type_relations.specs.Types.{same, same_each}
use Rattle.java_conversions.proofs.same.+same.Given as goal

abbrev pub invariant-same_row-loop-x : goal.invariant-same_row-loop-x
invariant-same_row-loop-x l = same_each (map same (drop l.x-index l.xs)) l.others ≡ same_each (map same l.xs) l.ys.list.now

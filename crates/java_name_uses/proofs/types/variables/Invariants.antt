use Rattle.std.proofs.Common.{◌≡◌, ◌++◌, map, take}
use Rattle.java_name_uses.specs.Uses.{all, variable}
use Rattle.java_name_uses.proofs.types.variables.Given as goal

abbrev pub invariant-loop-x : goal.invariant-loop-x
invariant-loop-x l = l.out ≡ l.fn.out ++ all (map variable (take l.x-index l.xs))

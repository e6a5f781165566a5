use Rattle.std.proofs.Common.{◌≡◌, ◌++◌, map, take}
use Rattle.java_name_uses.specs.Uses.{all, part}
use Rattle.java_name_uses.proofs.types.parts.Given as goal

abbrev pub invariant-loop-x : goal.invariant-loop-x
invariant-loop-x l = l.out ≡ l.fn.out ++ all (map part (take l.x-index l.xs))

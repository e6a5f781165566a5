use Rattle.std.proofs.Common.{◌≡◌, ◌++◌, drop}
use Rattle.java_supertypes.specs.Supertypes.{each}
use Rattle.java_supertypes.proofs.heads.push_each.Given as goal

abbrev pub invariant-loop-x : goal.invariant-loop-x
invariant-loop-x l = l.out ++ each l.world l.scope l.params (drop l.x-index l.xs) ≡ l.fn.out ++ each l.world l.scope l.params l.xs

use Rattle.std.proofs.Common.{◌≡◌, ◌++◌, map, take}
use Rattle.java_name_uses.specs.Uses.{values, uses}
use Rattle.java_name_uses.proofs.exprs.+uses.Given as goal

abbrev pub invariant-expressions-loop-x : goal.invariant-expressions-loop-x
invariant-expressions-loop-x l = l.out ≡ l.fn.out ++ values (map uses (take l.x-index l.xs))

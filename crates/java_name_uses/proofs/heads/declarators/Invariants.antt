use Rattle.std.proofs.Common.{◌≡◌, ◌++◌, take}
use Rattle.java_name_uses.specs.Heads.{declarators}
use Rattle.java_name_uses.proofs.heads.declarators.Given as goal

abbrev pub invariant-loop-x : goal.invariant-loop-x
invariant-loop-x l = l.out ≡ l.fn.out ++ declarators (take l.x-index l.xs)

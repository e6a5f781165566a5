use Rattle.std.proofs.Common.{◌≡◌, ◌++◌, drop}
use Rattle.java_members.proofs.walks.add_level.Given as goal

abbrev pub invariant-loop-r : goal.invariant-loop-r
invariant-loop-r l = l.out.items ++ drop l.r-index l.level ≡ l.fn.out.items ++ l.level

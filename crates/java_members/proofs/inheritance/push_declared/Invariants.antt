use Rattle.std.proofs.Common.{◌≡◌, ◌++◌, drop, map}
use Rattle.java_members.specs.Members.{found}
use Rattle.java_members.specs.Numbers.{picked}
use Rattle.java_members.proofs.inheritance.push_declared.Given as goal

abbrev pub invariant-loop-n : goal.invariant-loop-n
invariant-loop-n l = l.out.items ++ map (found l.number) (picked l.members (drop l.n-index l.numbers)) ≡ l.fn.out.items ++ map (found l.number) (picked l.members l.numbers)

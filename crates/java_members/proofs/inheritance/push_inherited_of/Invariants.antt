use Rattle.std.proofs.Common.{◌≡◌, ◌++◌, drop, map}
use Rattle.std.specs.List.{filter}
use Rattle.java_members.specs.Members.{found, passes}
use Rattle.java_members.specs.Numbers.{picked}
use Rattle.java_members.proofs.inheritance.push_inherited_of.Given as goal

abbrev pub invariant-loop-n : goal.invariant-loop-n
invariant-loop-n l =
    l.out.items ++ map (found l.r.class) (filter (passes l.sort l.r.is_near l.class) (picked l.members (drop l.n-index l.numbers)))
    ≡ l.fn.out.items ++ map (found l.r.class) (filter (passes l.sort l.r.is_near l.class) (picked l.members l.numbers))

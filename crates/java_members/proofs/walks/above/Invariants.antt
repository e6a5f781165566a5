use Rattle.std.proofs.Common.{◌≡◌, ◌++◌, ◌-◌}
use Rattle.java_members.specs.Members.{levels, above}
use Rattle.java_members.proofs.walks.above.Given as goal

abbrev pub invariant-loop-done : goal.invariant-loop-done
invariant-loop-done l =
    l.out.items ++ levels l.table l.sort l.name (l.steps - l.done) l.level.items ≡ above l.table l.sort l.name l.steps l.class

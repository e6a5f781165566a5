use Rattle.std.proofs.Common.{◌≡◌, drop}
use Rattle.java_members.specs.Members.{next_from, next}
use Rattle.java_members.proofs.walks.next.Given as goal

abbrev pub invariant-loop-r : goal.invariant-loop-r
invariant-loop-r l = next_from l.table l.sort l.name l.out.items (drop l.r-index l.level) ≡ next l.table l.sort l.name l.level

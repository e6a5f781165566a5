use Rattle.std.proofs.Common.{◌≡◌, drop}
use Rattle.java_members.specs.Members.{with_above}
use Rattle.java_members.proofs.walks.add_above.Given as goal

abbrev pub invariant-loop-x : goal.invariant-loop-x
invariant-loop-x l = with_above l.table l.out.items l.is_near l.home (drop l.x-index l.xs) ≡ with_above l.table l.fn.out.items l.is_near l.home l.xs

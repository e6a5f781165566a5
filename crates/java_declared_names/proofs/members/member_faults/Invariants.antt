use Rattle.std.proofs.Common.{◌≡◌, ◌++◌, drop}
use Rattle.java_declared_names.specs.Declared.{members_from, member_faults}
use Rattle.java_declared_names.proofs.members.member_faults.Given as goal

abbrev pub invariant-loop-x : goal.invariant-loop-x
invariant-loop-x l = l.out ++ members_from l.rows l.unit l.seen (drop l.x-index l.xs) ≡ l.fn.out ++ member_faults l.rows l.unit l.xs

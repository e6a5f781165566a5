use Rattle.std.proofs.Common.{◌≡◌, ◌++◌, drop}
use Rattle.java_head_names.specs.Heads.{members_faults}
use Rattle.java_head_names.proofs.members.push_members.Given as goal

abbrev pub invariant-loop-x : goal.invariant-loop-x
invariant-loop-x l = l.out ++ members_faults l.world l.unit l.scope l.params l.is_interface (drop l.x-index l.xs) ≡ l.fn.out ++ members_faults l.world l.unit l.scope l.params l.is_interface l.xs

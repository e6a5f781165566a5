use Rattle.std.proofs.Common.{◌≡◌, ◌++◌, drop}
use Rattle.java_head_names.specs.Heads.{formals_faults}
use Rattle.java_head_names.proofs.members.push_formals.Given as goal

abbrev pub invariant-loop-x : goal.invariant-loop-x
invariant-loop-x l = l.out ++ formals_faults l.world l.unit l.scope l.params l.is_static (drop l.x-index l.xs) ≡ l.fn.out ++ formals_faults l.world l.unit l.scope l.params l.is_static l.xs

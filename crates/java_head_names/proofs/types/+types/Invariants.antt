use Rattle.std.proofs.Common.{◌≡◌, ◌++◌, drop}
use Rattle.java_head_names.specs.Heads.{types_faults}
use Rattle.java_head_names.proofs.types.+types.Given as goal

abbrev pub invariant-push_types-loop-x : goal.invariant-push_types-loop-x
invariant-push_types-loop-x l =
    l.out ++ types_faults l.world l.unit l.scope l.params l.is_static (drop l.x-index l.xs) ≡ l.fn.out ++ types_faults l.world l.unit l.scope l.params l.is_static l.xs

use Rattle.std.proofs.Common.{◌≡◌, ◌++◌, drop}
use Rattle.java_head_names.specs.Heads.{bounds_faults}
use Rattle.java_head_names.proofs.types.push_bounds.Given as goal

abbrev pub invariant-loop-x : goal.invariant-loop-x
invariant-loop-x l = l.out ++ bounds_faults l.world l.unit l.scope l.params l.is_static (drop l.x-index l.xs) ≡ l.fn.out ++ bounds_faults l.world l.unit l.scope l.params l.is_static l.xs

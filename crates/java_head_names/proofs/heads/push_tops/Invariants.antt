use Rattle.std.proofs.Common.{◌≡◌, ◌++◌, drop}
use Rattle.java_head_names.specs.Heads.{tops_faults}
use Rattle.java_head_names.proofs.heads.push_tops.Given as goal

abbrev pub invariant-loop-x : goal.invariant-loop-x
invariant-loop-x l = l.out ++ tops_faults l.world l.unit l.scope (drop l.x-index l.xs) ≡ l.fn.out ++ tops_faults l.world l.unit l.scope l.xs

use Rattle.std.proofs.Common.{◌≡◌, ◌++◌, drop}
use Rattle.java_head_names.specs.Bounds.{cycles_from}
use Rattle.java_head_names.proofs.bounds.push_each.Given as goal

abbrev pub invariant-loop-number : goal.invariant-loop-number
invariant-loop-number l = l.out ++ cycles_from l.unit l.edges l.number (drop l.number l.xs) ≡ l.fn.out ++ cycles_from l.unit l.edges 0 l.xs

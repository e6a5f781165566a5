use Rattle.std.proofs.Common.{◌≡◌, ◌++◌, drop}
use Rattle.java_supertypes.specs.Supertypes.{cycles_from, cycle_faults}
use Rattle.java_supertypes.proofs.cycles.cycle_faults.Given as goal

abbrev pub invariant-loop-number : goal.invariant-loop-number
invariant-loop-number l = l.out ++ cycles_from l.edges l.number (drop l.number l.rows) ≡ l.fn.out ++ cycle_faults l.edges l.rows

use Rattle.std.proofs.Common.{◌≡◌, ◌++◌, drop}
use Rattle.java_head_names.specs.Heads.{faults_from, head_faults}
use Rattle.java_head_names.proofs.heads.head_faults.Given as goal

abbrev pub invariant-loop-number : goal.invariant-loop-number
invariant-loop-number l = l.out ++ faults_from l.world l.scopes l.number (drop l.number l.units) ≡ l.fn.out ++ head_faults l.world l.scopes l.units

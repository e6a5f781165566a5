use Rattle.std.proofs.Common.{◌≡◌, ◌++◌, drop}
use Rattle.java_classes.specs.Faults.{faults_from, class_faults}
use Rattle.java_classes.proofs.faults.class_faults.Given as goal

abbrev pub invariant-loop-row : goal.invariant-loop-row
invariant-loop-row l = l.out ++ faults_from l.packages l.seen (drop l.row-index l.rows) ≡ l.fn.out ++ class_faults l.packages l.rows

use Rattle.std.proofs.Common.{◌≡◌, ◌++◌, drop}
use Rattle.java_classes.specs.Classes.{rows_from, class_rows}
use Rattle.java_classes.proofs.rows.class_rows.Given as goal

abbrev pub invariant-loop-number : goal.invariant-loop-number
invariant-loop-number l = l.out ++ rows_from l.number (drop l.number l.units) ≡ class_rows l.units

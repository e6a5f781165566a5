use Rattle.std.proofs.Common.{◌≡◌, drop}
use Rattle.java_classes.specs.Numbers.{picked}
use Rattle.java_classes.specs.Tables.{is_of_file}
use Rattle.java_classes.proofs.classes.first_in_file.Given as goal

abbrev pub invariant-loop-number : goal.invariant-loop-number
invariant-loop-number l = picked (is_of_file l.unit) l.rows (drop l.number-index l.numbers) ≡ picked (is_of_file l.unit) l.rows l.numbers

use Rattle.std.proofs.Common.{◌≡◌, drop}
use Rattle.java_classes.specs.Numbers.{picked}
use Rattle.java_classes.specs.Tables.{is_of_package}
use Rattle.java_classes.proofs.classes.first_in_package.Given as goal

abbrev pub invariant-loop-number : goal.invariant-loop-number
invariant-loop-number l = picked (is_of_package l.home) l.rows (drop l.number-index l.numbers) ≡ picked (is_of_package l.home) l.rows l.numbers

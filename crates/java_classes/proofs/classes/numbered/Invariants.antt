use Rattle.std.proofs.Common.{◌≡◌, ◌++◌, drop}
use Rattle.java_classes.specs.Numbers.{numbered}
use Rattle.java_classes.proofs.classes.numbered.Given as goal

abbrev pub invariant-loop-number : goal.invariant-loop-number
invariant-loop-number l = l.out.items ++ numbered l.number (drop l.number l.rows) ≡ numbered 0 l.rows

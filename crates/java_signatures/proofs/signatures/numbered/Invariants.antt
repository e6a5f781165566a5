use Rattle.std.proofs.Common.{◌≡◌, ◌++◌, drop}
use Rattle.java_signatures.specs.Numbers.{numbered}
use Rattle.java_signatures.proofs.signatures.numbered.Given as goal

abbrev pub invariant-loop-number : goal.invariant-loop-number
invariant-loop-number l = l.out.items ++ numbered l.number (drop l.number l.xs) ≡ numbered 0 l.xs

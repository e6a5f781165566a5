use Rattle.kotlin_brackets.specs.Steps.{IsScan}
use Rattle.kotlin_brackets.proofs.scanning.scanned.Given as goal

abbrev pub invariant-loop-number : goal.invariant-loop-number
invariant-loop-number l = IsScan l.tokens l.number l.scan

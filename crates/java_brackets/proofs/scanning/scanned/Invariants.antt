use Rattle.java_tree.specs.Seen.{seen}
use Rattle.java_brackets.specs.Steps.{IsScan}
use Rattle.java_brackets.proofs.scanning.scanned.Given as goal

abbrev pub invariant-loop-number : goal.invariant-loop-number
invariant-loop-number l = IsScan (seen l.tokens) l.number l.scan

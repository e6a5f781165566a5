use Rattle.java_tree.specs.Seen.{seen}
use Rattle.java_brackets.specs.Steps.{IsPairing}
use Rattle.java_brackets.proofs.pairing.pairing_of.Given as goal

abbrev pub invariant-loop-number : goal.invariant-loop-number
invariant-loop-number l = IsPairing (seen l.tokens) l.number l.pairing

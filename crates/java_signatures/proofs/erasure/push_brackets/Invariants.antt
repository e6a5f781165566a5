use Rattle.std.proofs.Common.{◌≡◌, ◌++◌, length}
use Rattle.java_signatures.specs.Signatures.{arrays}
use Rattle.java_signatures.proofs.erasure.push_brackets.Given as goal

abbrev pub invariant-loop-xs : goal.invariant-loop-xs
invariant-loop-xs l = l.out ++ arrays l.xs ≡ l.fn.out ++ arrays l.fn.xs

abbrev pub decreases-loop-xs : goal.decreases-loop-xs
decreases-loop-xs l = length l.xs

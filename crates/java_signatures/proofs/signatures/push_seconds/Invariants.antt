use Rattle.std.proofs.Common.{◌≡◌, ◌++◌, [], drop, take}
use Rattle.java_signatures.specs.Signatures.{faults_from}
use Rattle.java_signatures.proofs.signatures.push_seconds.Given as goal

abbrev pub invariant-loop-number : goal.invariant-loop-number
invariant-loop-number l = l.out ++ faults_from l.unit (take l.number l.xs) (drop l.number l.xs) ≡ l.fn.out ++ faults_from l.unit [] l.xs

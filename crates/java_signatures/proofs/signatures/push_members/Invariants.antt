use Rattle.std.proofs.Common.{◌≡◌, ◌++◌, drop}
use Rattle.java_signatures.specs.Signatures.{signatures}
use Rattle.java_signatures.proofs.signatures.push_members.Given as goal

abbrev pub invariant-loop-x : goal.invariant-loop-x
invariant-loop-x l = l.out ++ signatures l.world l.scope l.params (drop l.x-index l.xs) ≡ l.fn.out ++ signatures l.world l.scope l.params l.xs

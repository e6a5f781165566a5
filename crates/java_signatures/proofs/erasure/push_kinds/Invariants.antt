use Rattle.std.proofs.Common.{◌≡◌, ◌++◌, drop}
use Rattle.java_signatures.specs.Signatures.{kinds}
use Rattle.java_signatures.proofs.erasure.push_kinds.Given as goal

abbrev pub invariant-loop-x : goal.invariant-loop-x
invariant-loop-x l = l.out ++ kinds l.world l.scope l.params (drop l.x-index l.xs) ≡ l.fn.out ++ kinds l.world l.scope l.params l.xs

use Rattle.std.proofs.Common.{◌≡◌, ◌++◌, drop}
use Rattle.java_body_uses.proofs.heads.put_all_again.Given as goal

abbrev pub invariant-loop-x : goal.invariant-loop-x
invariant-loop-x l = l.out ++ drop l.x-index l.xs ≡ l.fn.out ++ l.xs

use Rattle.std.proofs.Common.{◌≡◌, ◌++◌, drop}
use Rattle.java_supertypes.specs.Supertypes.{types_headings}
use Rattle.java_supertypes.proofs.heads.push_types.Given as goal

abbrev pub invariant-loop-x : goal.invariant-loop-x
invariant-loop-x l = l.out ++ types_headings l.world l.scope (drop l.x-index l.xs) ≡ l.fn.out ++ types_headings l.world l.scope l.xs

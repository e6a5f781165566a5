use Rattle.std.proofs.Common.{◌≡◌, ◌++◌, drop}
use Rattle.java_supertypes.specs.Supertypes.{edges_from, class_edges}
use Rattle.java_supertypes.proofs.cycles.class_edges.Given as goal

abbrev pub invariant-loop-number : goal.invariant-loop-number
invariant-loop-number l = l.out.items ++ edges_from l.number (drop l.number l.xs) ≡ class_edges l.xs

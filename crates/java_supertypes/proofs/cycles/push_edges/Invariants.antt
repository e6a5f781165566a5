use Rattle.std.proofs.Common.{◌≡◌, ◌++◌, drop}
use Rattle.java_supertypes.specs.Supertypes.{edges_to}
use Rattle.java_supertypes.proofs.cycles.push_edges.Given as goal

abbrev pub invariant-loop-x : goal.invariant-loop-x
invariant-loop-x l = l.out.items ++ edges_to l.number (drop l.x-index l.xs) ≡ l.fn.out.items ++ edges_to l.number l.xs

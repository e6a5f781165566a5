use Rattle.std.proofs.Common.{◌≡◌, ◌++◌, drop}
use Rattle.java_head_names.specs.Bounds.{edges_from, bound_edges}
use Rattle.java_head_names.proofs.bounds.bound_edges.Given as goal

abbrev pub invariant-loop-number : goal.invariant-loop-number
invariant-loop-number l = l.out.items ++ edges_from l.xs l.number (drop l.number l.xs) ≡ bound_edges l.xs

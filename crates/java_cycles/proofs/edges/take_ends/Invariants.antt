use Rattle.std.proofs.Common.{◌≡◌, ◌++◌, take}
use Rattle.java_cycles.specs.Cycles.{others, ends_of}
use Rattle.java_cycles.proofs.edges.take_ends.Given as goal

abbrev pub invariant-loop-e : goal.invariant-loop-e
invariant-loop-e l = record {
  rest : l.rest.items ≡ others l.a (take l.e-index l.edges);
  found : l.found.items ≡ l.fn.found.items ++ ends_of l.a (take l.e-index l.edges);
}

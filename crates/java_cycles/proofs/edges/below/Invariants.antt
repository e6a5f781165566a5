use Rattle.std.proofs.Common.{◌≡◌, ◌-◌, length}
use Rattle.java_cycles.specs.Cycles.{found_from, below}
use Rattle.java_cycles.proofs.edges.below.Given as goal

abbrev pub invariant-loop-done : goal.invariant-loop-done
invariant-loop-done l = found_from (length l.edges - l.done) l.done l.left.items l.found.items ≡ below l.edges l.a

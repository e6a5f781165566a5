use Rattle.std.proofs.Common.{◌≡◌, ◌++◌, []}
use Rattle.java_tree.specs.Seen.{expanded, seen}
use Rattle.java_unit_printer.specs.Work.{todo, weight}
use Rattle.java_unit_printer.proofs.units.run.Given as goal

abbrev pub invariant-loop-work : goal.invariant-loop-work
invariant-loop-work l = seen l.out.items ++ expanded [] (todo l.stack.items) ≡ expanded [] (todo l.fn.stack.items)

abbrev pub decreases-loop-work : goal.decreases-loop-work
decreases-loop-work l = weight l.stack.items

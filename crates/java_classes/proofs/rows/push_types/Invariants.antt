use Rattle.std.proofs.Common.{◌≡◌, ◌++◌, drop}
use Rattle.java_classes.specs.Classes.{each_rows}
use Rattle.java_classes.proofs.rows.push_types.Given as goal

abbrev pub invariant-loop-x : goal.invariant-loop-x
invariant-loop-x l = l.out ++ each_rows l.number l.path l.home (drop l.x-index l.xs) ≡ l.fn.out ++ each_rows l.number l.path l.home l.xs

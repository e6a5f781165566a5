use Rattle.std.proofs.Common.{◌≡◌, ◌++◌, drop}
use Rattle.java_classes.specs.Classes.{behind}
use Rattle.java_classes.proofs.rows.push_parts.Given as goal

abbrev pub invariant-loop-x : goal.invariant-loop-x
invariant-loop-x l = l.text ++ behind (drop l.x-index l.xs) ≡ l.fn.text ++ behind l.xs

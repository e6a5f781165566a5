use Rattle.std.proofs.Common.{◌≡◌, ◌++◌, map, drop}
use Rattle.java_name_uses.specs.Uses.{all}
use Rattle.java_body_uses.specs.Bodies.{field_value}
use Rattle.java_body_uses.proofs.members.put_values.Given as goal

abbrev pub invariant-loop-x : goal.invariant-loop-x
invariant-loop-x l = l.out ++ all (map field_value (drop l.x-index l.xs)) ≡ l.fn.out ++ all (map field_value l.xs)

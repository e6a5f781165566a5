use Rattle.std.proofs.Common.{◌≡◌, ◌++◌, map, drop}
use Rattle.java_name_uses.specs.Uses.{all}
use Rattle.java_body_uses.specs.Bodies.{body_uses, statement_uses, case_uses, group_uses, catch_uses, filled}
use Rattle.java_body_uses.proofs.blocks.+bodies.Given as goal

abbrev pub invariant-put_filled-loop-inner : goal.invariant-put_filled-loop-inner
invariant-put_filled-loop-inner l = l.out ++ filled l.left (map body_uses (drop l.inner-index l.bodies)) ≡ l.fn.out ++ filled l.head (map body_uses l.bodies)

abbrev pub invariant-cases-loop-x : goal.invariant-cases-loop-x
invariant-cases-loop-x l = l.out ++ all (map case_uses (drop l.x-index l.xs)) ≡ l.fn.out ++ all (map case_uses l.xs)

abbrev pub invariant-groups-loop-x : goal.invariant-groups-loop-x
invariant-groups-loop-x l = l.out ++ all (map group_uses (drop l.x-index l.xs)) ≡ l.fn.out ++ all (map group_uses l.xs)

abbrev pub invariant-catches-loop-x : goal.invariant-catches-loop-x
invariant-catches-loop-x l = l.out ++ all (map catch_uses (drop l.x-index l.xs)) ≡ l.fn.out ++ all (map catch_uses l.xs)

abbrev pub invariant-statements-loop-x : goal.invariant-statements-loop-x
invariant-statements-loop-x l = l.out ++ all (map statement_uses (drop l.x-index l.xs)) ≡ l.fn.out ++ all (map statement_uses l.xs)

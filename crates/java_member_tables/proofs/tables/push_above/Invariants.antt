use Rattle.std.proofs.Common.{◌≡◌, ◌++◌, drop, map}
use Rattle.java_member_tables.specs.Tables.{number_of}
use Rattle.java_member_tables.proofs.tables.push_above.Given as goal

abbrev pub invariant-loop-x : goal.invariant-loop-x
invariant-loop-x l = l.out ++ map (number_of l.count) (drop l.x-index l.xs) ≡ l.fn.out ++ map (number_of l.count) l.xs

use Rattle.std.proofs.Common.{◌≡◌, ◌++◌, drop}
use Rattle.java_member_tables.specs.Members.{fields}
use Rattle.java_member_tables.proofs.members.push_fields.Given as goal

abbrev pub invariant-loop-x : goal.invariant-loop-x
invariant-loop-x l = l.out ++ fields l.is_interface (drop l.x-index l.xs) ≡ l.fn.out ++ fields l.is_interface l.xs

use Rattle.std.proofs.Common.{◌≡◌, ◌++◌, drop, map}
use Rattle.java_member_tables.specs.Members.{field}
use Rattle.java_member_tables.proofs.members.push_names.Given as goal

abbrev pub invariant-loop-x : goal.invariant-loop-x
invariant-loop-x l = l.out ++ map (field l.is_interface l.mods) (drop l.x-index l.xs) ≡ l.fn.out ++ map (field l.is_interface l.mods) l.xs

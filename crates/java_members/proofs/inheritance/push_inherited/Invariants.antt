use Rattle.std.proofs.Common.{◌≡◌, ◌++◌, drop}
use Rattle.java_members.specs.Members.{inherited}
use Rattle.java_members.proofs.inheritance.push_inherited.Given as goal

abbrev pub invariant-loop-r : goal.invariant-loop-r
invariant-loop-r l = l.out.items ++ inherited l.table l.sort l.name (drop l.r-index l.rs) ≡ l.fn.out.items ++ inherited l.table l.sort l.name l.rs

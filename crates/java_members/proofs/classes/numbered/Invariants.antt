use Rattle.std.proofs.Common.{◌≡◌, ◌++◌, drop}
use Rattle.java_members.specs.Numbers.{numbered}
use Rattle.java_members.proofs.classes.numbered.Given as goal

abbrev pub invariant-loop-number : goal.invariant-loop-number
invariant-loop-number l = l.out.items ++ numbered l.number (drop l.number l.members) ≡ numbered 0 l.members

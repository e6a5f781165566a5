use Rattle.std.proofs.Common.{◌≡◌, ◌++◌, drop}
use Rattle.java_surroundings.specs.Surroundings.{seen}
use Rattle.java_surroundings.proofs.answers.seen.Given as goal

abbrev pub invariant-loop-x : goal.invariant-loop-x
invariant-loop-x l = l.out.items ++ seen l.table l.own (drop l.x-index l.xs) ≡ seen l.table l.own l.xs

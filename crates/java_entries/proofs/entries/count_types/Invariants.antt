use Rattle.std.proofs.Common.{◌≡◌, drop}
use Rattle.java_entries.specs.Entries.{count_types}
use Rattle.java_entries.proofs.entries.count_types.Given as goal

abbrev pub invariant-loop-x : goal.invariant-loop-x
invariant-loop-x l = count_types l.world l.scope l.entry l.all (drop l.x-index l.xs) ≡ count_types l.world l.scope l.entry l.fn.count l.xs

use Rattle.std.proofs.Common.{◌≡◌, drop}
use Rattle.java_entries.specs.Entries.{count_members}
use Rattle.java_entries.proofs.entries.count_members.Given as goal

abbrev pub invariant-loop-x : goal.invariant-loop-x
invariant-loop-x l = count_members l.world l.scope l.params l.entry l.front l.all (drop l.x-index l.xs) ≡ count_members l.world l.scope l.params l.entry l.front l.fn.count l.xs

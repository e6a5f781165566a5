use Rattle.std.proofs.Common.{◌≡◌, drop}
use Rattle.java_entries.specs.Entries.{count_from}
use Rattle.java_entries.specs.declared.entries.Count.TheVariants as c
use Rattle.java_entries.proofs.entries.is_entry.Given as goal

abbrev pub invariant-loop-number : goal.invariant-loop-number
invariant-loop-number l = count_from l.world l.scopes l.entry l.number l.all (drop l.number l.units) ≡ count_from l.world l.scopes l.entry 0 c.None l.units

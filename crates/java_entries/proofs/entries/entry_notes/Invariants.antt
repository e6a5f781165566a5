use Rattle.std.proofs.Common.{◌≡◌, ◌++◌, drop}
use Rattle.java_entries.specs.Entries.{entry_notes}
use Rattle.java_entries.proofs.entries.entry_notes.Given as goal

abbrev pub invariant-loop-entry : goal.invariant-loop-entry
invariant-loop-entry l = l.out ++ entry_notes l.world l.scopes l.units (drop l.entry-index l.entries) ≡ l.fn.out ++ entry_notes l.world l.scopes l.units l.entries

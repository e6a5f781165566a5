use Rattle.std.proofs.Common.{◌≡◌, ◌++◌, drop}
use Rattle.java_name_faults.specs.Notes.{notes}
use Rattle.java_name_faults.proofs.notes.name_notes.Given as goal

abbrev pub invariant-loop-x : goal.invariant-loop-x
invariant-loop-x l = l.out ++ notes l.units (drop l.x-index l.faults) ≡ notes l.units l.faults

-- The faults of names as faults of the files that they stand in.
use Rattle.std.specs.Prelude.{ℕ, List, [], ◌∷◌, ◌++◌, Option, Some, None, slice_get}
use Rattle.j2k_base.specs.declared.places.Fault.{Fault}
use Rattle.j2k_base.specs.declared.places.Phase.TheVariants.{N}
use Rattle.judged.specs.declared.notes.Note.{Note}
use Rattle.judged.specs.declared.notes.Note.TheVariants as note
use Rattle.judged.specs.Notes.{fault_at}
use Rattle.java_unit_grammar.specs.declared.units.JUnit.{JUnit}
use Rattle.java_classes.specs.declared.faults.NameFault.{NameFault}
use Rattle.java_name_faults.specs.declared.notes.Later.{Later}

-- the fault in the file of its number
abbrev pub note_in : Option JUnit → NameFault → List (Note Later)
note_in None x = []
note_in (Some unit) x = note.Fault (fault_at N x.number unit.path x.at.offset x.at.line x.at.column) ∷ []

abbrev pub notes : List JUnit → List NameFault → List (Note Later)
notes units [] = []
notes units (x ∷ xs) = note_in (slice_get units x.unit) x ++ notes units xs

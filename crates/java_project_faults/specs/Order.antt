-- Faults in the order in which they are told: a phase after another, and within a phase by the bytes of the path, the place in the file,
-- and the number of the rule.
use Rattle.std.specs.Prelude.{List, [], ◌∷◌, Option, Some, None, if◌then◌else◌}
use Rattle.std.specs.Ordering.{is_gt}
use Rattle.j2k_base.specs.declared.places.Fault.{Fault}
use Rattle.judged.specs.declared.notes.Note.{Note}
use Rattle.judged.specs.declared.notes.Note.TheVariants as note
use Rattle.judged.specs.Notes.{NoneBefore, fault_cmp}

-- before the first that isn't told earlier
abbrev pub placed : Fault → List Fault → List Fault
placed x [] = x ∷ []
placed x (y ∷ more) = if is_gt (fault_cmp x y) then y ∷ placed x more else x ∷ y ∷ more

abbrev pub in_order : List Fault → List Fault
in_order [] = []
in_order (x ∷ more) = placed x (in_order more)

-- none comes before one that stands earlier in the list
abbrev pub IsInOrder : List Fault → Type 0
IsInOrder [] = Unit {0}
IsInOrder (x ∷ more) = NoneBefore x more × IsInOrder more

abbrev pub first_of : List Fault → Option Fault
first_of [] = None
first_of (x ∷ more) = Some x

-- as notes, of which nothing is left for later
abbrev pub noted : List Fault → List (Note (Unit {0}))
noted [] = []
noted (x ∷ more) = note.Fault x ∷ noted more

-- What is noted of a part, and judgements of types.
use Rattle.std.specs.Prelude.{ℕ, List, [], ◌∷◌, Option}
use Rattle.j2k_base.specs.declared.places.Phase.TheVariants as phase
use Rattle.judged.specs.declared.notes.Note.{Note}
use Rattle.judged.specs.declared.notes.Note.TheVariants as note
use Rattle.judged.specs.Notes.{fault_at}
use Rattle.judged.specs.Judged.{Judged}
use Rattle.kotlin_tree.specs.declared.places.Position.{Position}
use Rattle.kotlin_typing.specs.declared.scope.KScope.{KScope}

-- nothing is left for later
abbrev pub Notes : Type 0
Notes = List (Note (Unit {0}))

abbrev pub Typed : Type 0 → Type 0
Typed A = Judged (Unit {0}) A

-- the fault K of a number, at a place of the file of a path
abbrev pub noted : List ℕ → ℕ → Position → Notes
noted path number at = note.Fault (fault_at phase.K number path at.offset at.line at.column) ∷ []

abbrev pub fault : KScope → ℕ → Position → Notes
fault s number at = noted s.path number at

abbrev pub faulty : {A : Type 0} → KScope → ℕ → Position → Typed A
faulty s number at = record { result = Option.None; notes = fault s number at }

-- What is noted of a part, and the first of the faults in it.
use Rattle.std.specs.Prelude.{◌≡◌, ◌≢◌, ◌⊎◌, ℕ, List, [], ◌∷◌, Option, Some, None, if◌then◌else◌}
use Rattle.std.specs.Ordering.{nat_cmp, ordering_then, is_lt}
use Rattle.std.specs.Cmp.Lexicographic.{slice_cmp}
use Rattle.std.specs.declared.cmp.Ordering.{Ordering}
use Rattle.std.specs.declared.cmp.Ordering.TheVariants.{Less}
use Rattle.j2k_base.specs.declared.places.Phase.{Phase}
use Rattle.j2k_base.specs.declared.places.Phase.TheVariants.{Settings, L, S, N, T, F, P, U, KL, KS, K}
use Rattle.j2k_base.specs.declared.places.Fault.{Fault}
use Rattle.judged.specs.declared.notes.Note.{Note}
use Rattle.judged.specs.declared.notes.Note.TheVariants as note

-- a fault at a place of the file of a path
abbrev pub fault_at : Phase → ℕ → List ℕ → ℕ → ℕ → ℕ → Fault
fault_at phase number path offset line column =
    record { phase = phase; number = number; place = record { path = path; offset = offset; line = line; column = column } }

-- the faults among notes
abbrev pub faults_in : {A : Type 0} → List (Note A) → List Fault
faults_in [] = []
faults_in (note.Fault fault ∷ notes) = fault ∷ faults_in notes
faults_in (note.Pending later ∷ notes) = faults_in notes

-- ---- which of two faults comes first

-- the phases in their order
abbrev pub rank : Phase → ℕ
rank Settings = 0
rank L = 1
rank S = 2
rank N = 3
rank T = 4
rank F = 5
rank P = 6
rank U = 7
rank KL = 8
rank KS = 9
rank K = 10

-- by the phase, then the bytes of the path, then the offset, then the number of the code
abbrev pub fault_cmp : Fault → Fault → Ordering
fault_cmp a b =
    ordering_then (nat_cmp (rank a.phase) (rank b.phase))
    (ordering_then (slice_cmp nat_cmp a.place.path b.place.path)
    (ordering_then (nat_cmp a.place.offset b.place.offset) (nat_cmp a.number b.number)))

abbrev pub IsAmong : Fault → List Fault → Type 0
IsAmong fault [] = ⊥
IsAmong fault (other ∷ faults) = (fault ≡ other) ⊎ IsAmong fault faults

-- none of them comes before the fault
abbrev pub NoneBefore : Fault → List Fault → Type 0
NoneBefore fault [] = Unit {0}
NoneBefore fault (other ∷ faults) = (fault_cmp other fault ≢ Less) × NoneBefore fault faults

-- a first fault of notes: it is one of them, and none of them comes before it
pub record IsFirst {A : Type 0} (notes : List (Note A)) (fault : Fault) : Type 0 where
  pub among : IsAmong fault (faults_in notes)
  pub first : NoneBefore fault (faults_in notes)

-- two faults of one code at one place
pub record AreSame (a b : Fault) : Type 0 where
  pub phase : a.phase ≡ b.phase
  pub number : a.number ≡ b.number
  pub path : a.place.path ≡ b.place.path
  pub offset : a.place.offset ≡ b.place.offset

-- ---- the first fault, one note after the other

abbrev pub earlier : {A : Type 0} → Option Fault → Note A → Option Fault
earlier found (note.Pending later) = found
earlier None (note.Fault fault) = Some fault
earlier (Some first) (note.Fault fault) = if is_lt (fault_cmp fault first) then Some fault else Some first

abbrev pub first_from : {A : Type 0} → Option Fault → List (Note A) → Option Fault
first_from found [] = found
first_from found (note ∷ notes) = first_from (earlier found note) notes

abbrev pub first_fault : {A : Type 0} → List (Note A) → Option Fault
first_fault notes = first_from None notes

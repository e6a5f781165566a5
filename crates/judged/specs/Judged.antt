-- What a part is judged to be: its result, where it has one, and what is noted of it. All faults are noted, and of a part
-- that has a fault no other part is judged that needs its result.
use Rattle.std.specs.Prelude.{◌≡◌, List, [], ◌∷◌, ◌++◌, Option, Some, None, IsSome}
use Rattle.j2k_base.specs.declared.places.Fault.{Fault}
use Rattle.judged.specs.declared.notes.Note.{Note}
use Rattle.judged.specs.declared.notes.Note.TheVariants as note
use Rattle.judged.specs.Notes.{faults_in}

-- P is what may be left for later, A is the result
pub record Judged (P A : Type 0) : Type 0 where
  pub result : Option A
  pub notes : List (Note P)

abbrev pub good : {P A : Type 0} → A → Judged P A
good a = record { result = Some a; notes = [] }

abbrev pub bad : {P A : Type 0} → Fault → Judged P A
bad fault = record { result = None; notes = note.Fault fault ∷ [] }

-- a result, and what is judged later for it
abbrev pub good_with : {P A : Type 0} → A → P → Judged P A
good_with a later = record { result = Some a; notes = note.Pending later ∷ [] }

-- where the part has no result, nothing is judged that needs it
abbrev pub after : {P A B : Type 0} → Option A → (A → Judged P B) → Judged P B
after None next = record { result = None; notes = [] }
after (Some a) next = next a

-- a part, and what is judged with its result
abbrev pub then : {P A B : Type 0} → Judged P A → (A → Judged P B) → Judged P B
then j next = record { result = (after j.result next).result; notes = j.notes ++ (after j.result next).notes }

infixl 1 ◌>>=◌
abbrev pub ◌>>=◌ : {P A B : Type 0} → Judged P A → (A → Judged P B) → Judged P B
j >>= next = then j next

abbrev pub both : {A B : Type 0} → Option A → Option B → Option (A × B)
both None b = None
both (Some a) None = None
both (Some a) (Some b) = Some (a, b)

-- two parts, each judged by itself
abbrev pub pair : {P A B : Type 0} → Judged P A → Judged P B → Judged P (A × B)
pair j k = record { result = both j.result k.result; notes = j.notes ++ k.notes }

abbrev pub begun : {A : Type 0} → Option A → Option (List A) → Option (List A)
begun None more = None
begun (Some a) None = None
begun (Some a) (Some more) = Some (a ∷ more)

-- a part, and a row of parts behind it
abbrev pub cons : {P A : Type 0} → Judged P A → Judged P (List A) → Judged P (List A)
cons j k = record { result = begun j.result k.result; notes = j.notes ++ k.notes }

-- a row of parts, each judged by itself
abbrev pub each : {P A : Type 0} → List (Judged P A) → Judged P (List A)
each [] = good []
each (j ∷ more) = cons j (each more)

-- one more result at the end of a row
abbrev pub ended : {A : Type 0} → Option (List A) → Option A → Option (List A)
ended None more = None
ended (Some done) None = None
ended (Some done) (Some a) = Some (done ++ a ∷ [])

-- Where no note is a fault there is a result.
abbrev pub IsWhole : {P A : Type 0} → Judged P A → Type 0
IsWhole j = faults_in j.notes ≡ [] → IsSome j.result

abbrev pub AllWhole : {P A : Type 0} → List (Judged P A) → Type 0
AllWhole [] = Unit {0}
AllWhole (j ∷ js) = IsWhole j × AllWhole js

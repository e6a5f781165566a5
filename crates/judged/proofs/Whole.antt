-- Where no note is a fault there is a result.
use Rattle.std.proofs.Common.{◌≡◌, List, [], ◌∷◌, ◌++◌, Option, Some, None, refl, ap, sym, ◌∙◌}
use Rattle.std.specs.Prelude.{IsSome}
use Rattle.judged.specs.declared.notes.Note.{Note}
use Rattle.judged.specs.declared.notes.Note.TheVariants as note
use Rattle.judged.specs.Notes.{faults_in}
use Rattle.judged.specs.Judged.{AllWhole, IsWhole, Judged, after, begun, both, cons, each, pair, then}

pub faults_in-append : {P : Type 0} (xs ys : List (Note P)) → faults_in (xs ++ ys) ≡ faults_in xs ++ faults_in ys
faults_in-append [] ys = refl
faults_in-append (note.Fault f ∷ xs) ys = ap (λ l. f ∷ l) (faults_in-append xs ys)
faults_in-append (note.Pending p ∷ xs) ys = faults_in-append xs ys

left_clean : {A : Type 0} (xs ys : List A) → xs ++ ys ≡ [] → xs ≡ []
left_clean [] ys e = refl
left_clean (x ∷ xs) ys e = cc

right_clean : {A : Type 0} (xs ys : List A) → xs ++ ys ≡ [] → ys ≡ []
right_clean [] ys e = e
right_clean (x ∷ xs) ys e = cc

clean_left : {P : Type 0} (xs ys : List (Note P)) → faults_in (xs ++ ys) ≡ [] → faults_in xs ≡ []
clean_left xs ys e = left_clean (faults_in xs) (faults_in ys) (sym (faults_in-append xs ys) ∙ e)

clean_right : {P : Type 0} (xs ys : List (Note P)) → faults_in (xs ++ ys) ≡ [] → faults_in ys ≡ []
clean_right xs ys e = right_clean (faults_in xs) (faults_in ys) (sym (faults_in-append xs ys) ∙ e)

some_both : {A B : Type 0} (a : Option A) (b : Option B) → IsSome a → IsSome b → IsSome (both a b)
some_both None b h k = cc
some_both (Some a) None h k = cc
some_both (Some a) (Some b) h k = k

pub whole_pair : {P A B : Type 0} (j : Judged P A) (k : Judged P B) → IsWhole j → IsWhole k → IsWhole (pair j k)
whole_pair j k h i e = some_both j.result k.result (h (clean_left j.notes k.notes e)) (i (clean_right j.notes k.notes e))

some_begun : {A : Type 0} (a : Option A) (b : Option (List A)) → IsSome a → IsSome b → IsSome (begun a b)
some_begun None b h k = cc
some_begun (Some a) None h k = cc
some_begun (Some a) (Some b) h k = k

pub whole_cons : {P A : Type 0} (j : Judged P A) (k : Judged P (List A)) → IsWhole j → IsWhole k → IsWhole (cons j k)
whole_cons j k h i e = some_begun j.result k.result (h (clean_left j.notes k.notes e)) (i (clean_right j.notes k.notes e))

pub whole_each : {P A : Type 0} (js : List (Judged P A)) → AllWhole js → IsWhole (each js)
whole_each [] h e = refl
whole_each (j ∷ js) h e = whole_cons j (each js) h.0 (whole_each js h.1) e

some_after : {P A B : Type 0} (a : Option A) (next : A → Judged P B) → ((x : A) → IsWhole (next x)) → IsSome a → faults_in (after a next).notes ≡ [] → IsSome (after a next).result
some_after None next w h e = cc
some_after (Some a) next w h e = w a e

pub whole_then : {P A B : Type 0} (j : Judged P A) (next : A → Judged P B) → IsWhole j → ((a : A) → IsWhole (next a)) → IsWhole (then j next)
whole_then j next h w e =
    some_after j.result next w (h (clean_left j.notes (after j.result next).notes e)) (clean_right j.notes (after j.result next).notes e)

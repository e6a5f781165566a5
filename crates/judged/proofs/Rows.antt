-- A row of parts, one more at its end.
use Rattle.std.proofs.Common.{◌≡◌, List, [], ◌∷◌, ◌++◌, Option, Some, None, refl, ap, ◌∙◌, sym, append_assoc, append-nil}
use Rattle.judged.specs.declared.notes.Note.{Note}
use Rattle.judged.specs.Judged.{Judged, begun, ended, each}

-- what code knows of a judgement: the result that it has, and its notes behind the old ones
pub record Told {P A : Type 0} (j : Judged P A) (old new : List (Note P)) (result : Option A) : Type 0 where
  pub value : result ≡ j.result
  pub notes : new ≡ old ++ j.notes

begun_ended : {A : Type 0} (a : Option A) (row : Option (List A)) (m : Option A) → begun a (ended row m) ≡ ended (begun a row) m
begun_ended None None None = refl
begun_ended None None (Some m) = refl
begun_ended None (Some d) None = refl
begun_ended None (Some d) (Some m) = refl
begun_ended (Some a) None None = refl
begun_ended (Some a) None (Some m) = refl
begun_ended (Some a) (Some d) None = refl
begun_ended (Some a) (Some d) (Some m) = refl

begun_last : {A : Type 0} (m : Option A) → begun m (Some []) ≡ ended (Some []) m
begun_last None = refl
begun_last (Some m) = refl

each_result : {P A : Type 0} (js : List (Judged P A)) (j : Judged P A) → (each (js ++ j ∷ [])).result ≡ ended (each js).result j.result
each_result [] j = begun_last j.result
each_result (i ∷ js) j = ap (λ r. begun i.result r) (each_result js j) ∙ begun_ended i.result (each js).result j.result

each_notes : {P A : Type 0} (js : List (Judged P A)) (j : Judged P A) → (each (js ++ j ∷ [])).notes ≡ (each js).notes ++ j.notes
each_notes [] j = append-nil j.notes
each_notes (i ∷ js) j = ap (λ fs. i.notes ++ fs) (each_notes js j) ∙ sym (append_assoc i.notes (each js).notes j.notes)

-- `each` of what was told, with one more told at the end
pub told_more : {P A : Type 0} (js : List (Judged P A)) (j : Judged P A) (old mid new : List (Note P)) (row : Option (List A)) (more : Option A) →
    Told (each js) old mid row → more ≡ j.result → new ≡ mid ++ j.notes → Told (each (js ++ j ∷ [])) old new (ended row more)
told_more js j old mid new row more h e k = record {
  value = ap (λ d. ended d more) h.value ∙ ap (λ m. ended (each js).result m) e ∙ sym (each_result js j);
  notes = k ∙ ap (λ m. m ++ j.notes) h.notes ∙ append_assoc old (each js).notes j.notes ∙ ap (λ n. old ++ n) (sym (each_notes js j));
}

-- Heads with and without bodies.
use Rattle.std.proofs.Common.{◌≡◌, ℕ, ◌+◌, ◌<◌, ◌≤◌, Bool, true, false, if◌then◌else◌, List, [], ◌∷◌, ◌++◌, map, length, get_or, drop, ap, refl, sym, ◌∙◌, append_assoc}
use Rattle.std.proofs.lemmas.List.{drop_more, drop_all}
use Rattle.java_unit_grammar.specs.declared.statements.JBody.{JBody}
use Rattle.java_name_uses.specs.declared.uses.Use.{Use}
use Rattle.java_name_uses.specs.Uses.{Uses}
use Rattle.java_body_uses.specs.Bodies.{filled, is_block, is_place}
use Rattle.java_body_uses.specs.Filling.{before, from_place, behind, placed}

pub filled_none : (xs : Uses) → filled xs [] ≡ xs
filled_none [] = refl
filled_none (x ∷ xs) = ap (λ l. x ∷ l) (filled_none xs)

abbrev Cut : Uses → Uses → List Uses → Type 0
Cut xs body bodies = filled xs (body ∷ bodies) ≡ before xs ++ (placed (from_place xs) body ++ filled (behind (from_place xs)) bodies)

cut_at : (x : Use) (xs body : Uses) (bodies : List Uses) (here : Bool) → is_place x ≡ here → Cut xs body bodies → Cut (x ∷ xs) body bodies
cut_at x xs body bodies true is more = rw is refl
cut_at x xs body bodies false is more = rw is (ap (λ l. x ∷ l) more)

pub filled_more : (xs body : Uses) (bodies : List Uses) → filled xs (body ∷ bodies) ≡ before xs ++ (placed (from_place xs) body ++ filled (behind (from_place xs)) bodies)
filled_more [] body bodies = refl
filled_more (x ∷ xs) body bodies = cut_at x xs body bodies (is_place x) refl (filled_more xs body bodies)

-- one more body in its place
pub one_more : (f : JBody → Uses) (bodies : List JBody) (i : ℕ) (x : JBody) (left more whole out next : Uses) → i < length bodies → x ≡ get_or bodies i x →
    out ++ filled left (map f (drop i bodies)) ≡ whole → next ≡ out ++ (before left ++ placed (from_place left) (f x)) → more ≡ behind (from_place left) →
    next ++ filled more (map f (drop (i + 1) bodies)) ≡ whole
one_more f bodies i x left more whole out next within here so_far now then_ =
    let rest = map f (drop (i + 1) bodies) in
    let at : drop i bodies ≡ x ∷ drop (i + 1) bodies = drop_more bodies i x within ∙ ap (λ y. y ∷ drop (i + 1) bodies) (sym here) in
    let said = placed (from_place left) (f x) in
    ap (λ l. l ++ filled more rest) now ∙ ap (λ l. (out ++ (before left ++ said)) ++ filled l rest) then_
    ∙ append_assoc out (before left ++ said) (filled (behind (from_place left)) rest)
    ∙ ap (λ l. out ++ l) (append_assoc (before left) said (filled (behind (from_place left)) rest) ∙ sym (filled_more left (f x) rest))
    ∙ ap (λ l. out ++ filled left (map f l)) (sym at) ∙ so_far

-- no body is left
pub no_more : (f : JBody → Uses) (bodies : List JBody) (i : ℕ) (left whole out next : Uses) → length bodies ≤ i →
    out ++ filled left (map f (drop i bodies)) ≡ whole → next ≡ out ++ left → next ≡ whole
no_more f bodies i left whole out next within so_far now =
    now ∙ ap (λ l. out ++ l) (sym (filled_none left)) ∙ ap (λ l. out ++ filled left (map f l)) (sym (drop_all i bodies within)) ∙ so_far

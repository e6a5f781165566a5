-- Lists that are gone over one item after the other.
use Rattle.std.proofs.Common.{◌≡◌, ℕ, suc, ◌+◌, ◌<◌, Bool, List, [], ◌∷◌, ◌++◌, ◌||◌, map, drop, length, get_or, refl, ap, sym, ◌∙◌, append_assoc, append-nil, drop-cons, add-one}
use Rattle.std.specs.List.{list_any}

-- a test of the images
pub any_image : {A B : Type 0} (f : A → B) (test : B → Bool) (xs : List A) → list_any (λ x. test (f x)) xs ≡ list_any test (map f xs)
any_image f test [] = refl
any_image f test (x ∷ xs) = ap (λ b. test (f x) || b) (any_image f test xs)

-- What a loop has said and what is left to be said, as one list.
pub told : {A B : Type 0} (before after : List A → List B) (xs : List A) (i : ℕ) (x : A) (first out next whole : List B) →
    ((ys : List A) → before (x ∷ ys) ≡ first ++ after ys) → i < length xs → x ≡ get_or xs i x →
    out ++ before (drop i xs) ≡ whole → next ≡ out ++ first → next ++ after (drop (i + 1) xs) ≡ whole
told before after xs i x first out next whole one within here was now =
    ap (λ l. l ++ after (drop (i + 1) xs)) now ∙ append_assoc out first (after (drop (i + 1) xs))
    ∙ ap (λ n. out ++ (first ++ after (drop n xs))) (add-one i)
    ∙ ap (λ l. out ++ l) (sym (one (drop (suc i) xs)))
    ∙ ap (λ y. out ++ before (y ∷ drop (suc i) xs)) here
    ∙ ap (λ l. out ++ before l) (sym (drop-cons xs i x within)) ∙ was

-- two, one after the other
pub both : {B : Type 0} (a b out mid next : List B) → mid ≡ out ++ a → next ≡ mid ++ b → next ≡ out ++ (a ++ b)
both a b out mid next first second = second ∙ ap (λ l. l ++ b) first ∙ append_assoc out a b

pub ruleset rows = (append-nil, append_assoc)

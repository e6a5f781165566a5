-- How the loop over the `u` of an escape goes on.
use Rattle.std.proofs.Common.{◌≡◌, ℕ, ◌+◌, ◌<◌, ◌≤◌, List, ◌∷◌, length, drop, get_or, eqb, cond, sym, ◌∙◌, ap, arith}
use Rattle.std.proofs.lemmas.List.{at_drop_more, at_drop_all}
use Rattle.std.proofs.lemmas.Bool.{ne_eqb}
use Rattle.java_characters.specs.Letters.{digits_at, escape_at}

mark_step : (n b : ℕ) (bs : List ℕ) → b ≡ 117 → escape_at n (b ∷ bs) ≡ escape_at (n + 1) bs
mark_step n b bs e = ap (λ t. cond t (escape_at (n + 1) bs) (digits_at n (b ∷ bs))) (ap (λ x. eqb x 117) e)

mark_stop : (n b : ℕ) (bs : List ℕ) → (b ≡ 117 → ⊥) → escape_at n (b ∷ bs) ≡ digits_at n (b ∷ bs)
mark_stop n b bs e = ap (λ t. cond t (escape_at (n + 1) bs) (digits_at n (b ∷ bs))) (ne_eqb b 117 e)

-- one more `u`
pub more_marks : (bs : List ℕ) (i : ℕ) → i < length bs → get_or bs i 0 ≡ 117 → escape_at (i + 2) (drop i bs) ≡ escape_at (i + 1 + 2) (drop (i + 1) bs)
more_marks bs i h e =
    let n : i + 2 + 1 ≡ i + 1 + 2 = omega arith in
    at_drop_more (escape_at (i + 2)) bs i 0 h ∙ (mark_step (i + 2) (get_or bs i 0) (drop (i + 1) bs) e ∙ ap (λ k. escape_at k (drop (i + 1) bs)) n)

-- no more `u`
pub no_mark : (bs : List ℕ) (i : ℕ) → i < length bs → (get_or bs i 0 ≡ 117 → ⊥) → escape_at (i + 2) (drop i bs) ≡ digits_at (i + 2) (drop i bs)
no_mark bs i h e = at_drop_more (escape_at (i + 2)) bs i 0 h ∙ (mark_stop (i + 2) (get_or bs i 0) (drop (i + 1) bs) e ∙ sym (at_drop_more (digits_at (i + 2)) bs i 0 h))

pub marks_end : (bs : List ℕ) (i : ℕ) → length bs ≤ i → escape_at (i + 2) (drop i bs) ≡ digits_at (i + 2) (drop i bs)
marks_end bs i h = at_drop_all (escape_at (i + 2)) bs i h ∙ sym (at_drop_all (digits_at (i + 2)) bs i h)

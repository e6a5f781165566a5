-- The steps of a path, from its front.
use Rattle.std.proofs.Common.{◌≡◌, ℕ, ◌+◌, Bool, true, false, cond, List, [], ◌∷◌, drop, length, filter, refl, sym, ◌∙◌, ap, add-one}
use Rattle.std.specs.Prelude.{not}
use Rattle.std.specs.List.{slice_split, onto_first}
use Rattle.std.proofs.lemmas.List.Sums.{take_while-cons}
use Rattle.j2k_tool.specs.Words.{is_slash, is_step, steps, part_of, after_part}

-- the parts after the first
abbrev others : List ℕ → List (List ℕ)
others [] = []
others (byte ∷ path) = cond (is_slash byte) (slice_split is_slash path) (others path)

at_slash : (byte : ℕ) (path : List ℕ) → is_slash byte ≡ true → part_of (byte ∷ path) ≡ []
at_slash byte path e = take_while-cons (λ b. not (is_slash b)) byte path ∙ ap (λ b. cond (not b) (byte ∷ part_of path) []) e

past_other : (byte : ℕ) (path : List ℕ) → is_slash byte ≡ false → part_of (byte ∷ path) ≡ byte ∷ part_of path
past_other byte path e = take_while-cons (λ b. not (is_slash b)) byte path ∙ ap (λ b. cond (not b) (byte ∷ part_of path) []) e

split_is : (path : List ℕ) → slice_split is_slash path ≡ part_of path ∷ others path
split_is [] = refl
split_is (byte ∷ path) = by_test (is_slash byte) refl (split_is path)
  where
    by_test : (b : Bool) → is_slash byte ≡ b → slice_split is_slash path ≡ part_of path ∷ others path → slice_split is_slash (byte ∷ path) ≡ part_of (byte ∷ path) ∷ others (byte ∷ path)
    by_test true e is =
        ap (λ b. cond b ([] ∷ slice_split is_slash path) (onto_first byte (slice_split is_slash path))) e
        ∙ ap (λ (p : List ℕ). p ∷ slice_split is_slash path) (sym (at_slash byte path e))
        ∙ ap (λ b. part_of (byte ∷ path) ∷ cond b (slice_split is_slash path) (others path)) (sym e)
    by_test false e is =
        ap (λ b. cond b ([] ∷ slice_split is_slash path) (onto_first byte (slice_split is_slash path))) e
        ∙ ap (onto_first byte) is
        ∙ ap (λ (p : List ℕ). p ∷ others path) (sym (past_other byte path e))
        ∙ ap (λ b. part_of (byte ∷ path) ∷ cond b (slice_split is_slash path) (others path)) (sym e)

after_slash : (byte : ℕ) (path : List ℕ) → is_slash byte ≡ true → after_part (byte ∷ path) ≡ path
after_slash byte path e = ap (λ (p : List ℕ). drop (length p + 1) (byte ∷ path)) (at_slash byte path e)

after_other : (byte : ℕ) (path : List ℕ) → is_slash byte ≡ false → after_part (byte ∷ path) ≡ after_part path
after_other byte path e =
    ap (λ (p : List ℕ). drop (length p + 1) (byte ∷ path)) (past_other byte path e) ∙ ap (λ n. drop n (byte ∷ path)) (add-one (length (byte ∷ part_of path)))
    ∙ ap (λ n. drop n path) (sym (add-one (length (part_of path))))

others_are : (path : List ℕ) → filter is_step (others path) ≡ steps (after_part path)
others_are [] = refl
others_are (byte ∷ path) = by_test (is_slash byte) refl (others_are path)
  where
    by_test : (b : Bool) → is_slash byte ≡ b → filter is_step (others path) ≡ steps (after_part path) → filter is_step (others (byte ∷ path)) ≡ steps (after_part (byte ∷ path))
    by_test true e are =
        ap (λ b. filter is_step (cond b (slice_split is_slash path) (others path))) e ∙ ap steps (sym (after_slash byte path e))
    by_test false e are =
        ap (λ b. filter is_step (cond b (slice_split is_slash path) (others path))) e ∙ are ∙ ap steps (sym (after_other byte path e))

-- the first part is one of the steps where it leads elsewhere, and the others are those after it
pub cut_steps : (path : List ℕ) → steps path ≡ cond (is_step (part_of path)) (part_of path ∷ steps (after_part path)) (steps (after_part path))
cut_steps path =
    ap (filter is_step) (split_is path) ∙ ap (λ (s : List (List ℕ)). cond (is_step (part_of path)) (part_of path ∷ s) s) (others_are path)

-- Runs of letters go as far as they can, and a block comment ends at the first closing mark.
use Rattle.std.proofs.Common.{◌≡◌, ℕ, zero, suc, ◌+◌, ◌<◌, Bool, true, false, cond, refl, sym, ◌∙◌, ap, arith}
use Rattle.std.proofs.lemmas.Bool.{false≢true}
use Rattle.java_tree.specs.declared.tokens.Position.{Position}
use Rattle.java_characters.specs.declared.letters.Ending.{Ending}
use Rattle.java_lexer.specs.declared.found.Code.TheVariants.{Form}
use Rattle.java_characters.specs.Letters.{Letters, letter, stop}
use Rattle.java_characters.specs.Scans.{head, tail, drop_while, drop_letters}
use Rattle.java_lexer.specs.Found.{fault, comment}
use Rattle.java_lexer.specs.Pieces.{block_piece}
use Rattle.java_lexer.specs.Laws.{IsLongest, closes, IsFirstClose, end_of}

longest_step : (p : ℕ → Bool) (c : ℕ) (q : Position) (rest : Letters) (b : Bool) → p c ≡ b → IsLongest p rest (drop_while p rest) →
    IsLongest p (letter c q rest) (cond b (drop_while p rest) (letter c q rest))
longest_step p c q rest false h i = record { taken = 0; behind = refl; each = λ k l. absurd (omega (arith, l)); stops = h }
longest_step p c q rest true h i =
    record { taken = suc i.taken; behind = i.behind; each = each_more p c q rest i.taken h i.each; stops = i.stops }
  where
    each_more : (p : ℕ → Bool) (c : ℕ) (q : Position) (rest : Letters) (n : ℕ) → p c ≡ true → ((k : ℕ) → k < n → p (head (drop_letters k rest)) ≡ true) →
        (k : ℕ) → k < suc n → p (head (drop_letters k (letter c q rest))) ≡ true
    each_more p c q rest n h i zero l = h
    each_more p c q rest n h i (suc k) l = i k (omega (arith, l))

pub longest : (p : ℕ → Bool) (t : Letters) → IsLongest p t (drop_while p t)
longest p (stop e q) = record { taken = 0; behind = refl; each = λ k l. absurd (omega (arith, l)); stops = tt }
longest p (letter c q rest) = longest_step p c q rest (p c) refl (longest p rest)

block_step : (p : Position) (c : ℕ) (q : Position) (rest : Letters) (b : Bool) → closes (letter c q rest) ≡ b → block_piece p (letter c q rest) ≡ cond b (comment p (tail rest)) (block_piece p rest)
block_step p c q rest b h = ap (λ x. cond x (comment p (tail rest)) (block_piece p rest)) h

drop_one : (t : Letters) → tail t ≡ drop_letters 1 t
drop_one (letter c q rest) = refl
drop_one (stop e q) = refl

drop_stop : (k : ℕ) (e : Ending) (q : Position) → drop_letters k (stop e q) ≡ stop e q
drop_stop zero e q = refl
drop_stop (suc k) e q = refl

pub first_close : (p : Position) (n : ℕ) (t : Letters) → IsFirstClose t n → block_piece p t ≡ comment p (drop_letters (n + 2) t)
first_close p n (stop e q) h = absurd (false≢true (ap closes (sym (drop_stop n e q)) ∙ h.here))
first_close p zero (letter c q rest) h = block_step p c q rest true h.here ∙ ap (λ r. comment p r) (drop_one rest)
first_close p (suc n) (letter c q rest) h =
    let later : IsFirstClose rest n = record { here = h.here; not_before = λ k l. h.not_before (suc k) (omega (arith, l)) } in
    let e : suc n + 2 ≡ suc (n + 2) = omega arith in
    block_step p c q rest false (h.not_before 0 (omega arith)) ∙ (first_close p n rest later ∙ ap (λ k. comment p (drop_letters k (letter c q rest))) (sym e))

pub never_closed : (p : Position) (t : Letters) → ((n : ℕ) → closes (drop_letters n t) ≡ false) → block_piece p t ≡ fault Form p (end_of t)
never_closed p (stop e q) h = refl
never_closed p (letter c q rest) h = block_step p c q rest false (h 0) ∙ never_closed p rest (λ n. h (suc n))

-- Runs of letters go as far as they can.
use Rattle.std.proofs.Common.{◌≡◌, ℕ, zero, suc, ◌<◌, Bool, true, false, cond, refl, arith}
use Rattle.kotlin_tree.specs.declared.places.Position.{Position}
use Rattle.kotlin_characters.specs.Letters.{Letters, letter, stop}
use Rattle.kotlin_characters.specs.Scans.{head, drop_while, drop_letters}
use Rattle.kotlin_lexer.specs.Laws.{IsLongest}

longest_step : (p : ℕ → Bool) (c : ℕ) (q : Position) (rest : Letters) (b : Bool) → p c ≡ b → IsLongest p rest (drop_while p rest) →
    IsLongest p (letter c q rest) (cond b (drop_while p rest) (letter c q rest))
longest_step p c q rest false h i = record { taken = 0; behind = refl; each = λ k l. absurd (omega (arith, l)); stops = h }
longest_step p c q rest true h i =
    record { taken = suc i.taken; behind = i.behind; each = each_more p c q rest i.taken h i.each; stops = i.stops }
  where
    each_more : (p : ℕ → Bool) (c : ℕ) (q : Position) (rest : Letters) (n : ℕ) → p c ≡ true → ((k : ℕ) → k < n → p (head (drop_letters k rest)) ≡ true) →
        (k : ℕ) → k < suc n → p (head (drop_letters k (letter c q rest))) ≡ true
    each_more p c q rest n h i zero l = h
    each_more p c q rest n h i (suc k) l = i k (omega (arith, l))

pub longest : (p : ℕ → Bool) (t : Letters) → IsLongest p t (drop_while p t)
longest p (stop e q) = record { taken = 0; behind = refl; each = λ k l. absurd (omega (arith, l)); stops = tt }
longest p (letter c q rest) = longest_step p c q rest (p c) refl (longest p rest)

-- A value is counted up to 2 ^ 64.
use Rattle.std.proofs.Common.{◌≡◌, ℕ, ◌+◌, ◌-◌, ◌*◌, ◌^◌, min, Bool, true, false, cond, refl, ◌∙◌, ap, arith, inl, inr}
use Rattle.std.proofs.lemmas.Bool.Decides.{leb_tells}
use Rattle.kotlin_characters.specs.Letters.{Letters, letter, stop}
use Rattle.kotlin_lexer.specs.Numbers.{is_digit, value_with, number_value}
use Rattle.kotlin_lexer.specs.Laws.{exact_value}

capped : (v d top : ℕ) → min (min v top * 10 + d) top ≡ min (v * 10 + d) top
capped v d top =
    elim (leb_tells v top) [
      | inl t ↦ let e : min v top ≡ v = omega (arith, t.1) in ap (λ x. min (x * 10 + d) top) e
      | inr t ↦ omega (arith, t.1)
    ]

step : (v c : ℕ) (rest : Letters) (b : Bool) → number_value (value_with (min v (2 ^ 64)) c) rest ≡ min (exact_value (v * 10 + (c - 48)) rest) (2 ^ 64) →
    cond b (number_value (value_with (min v (2 ^ 64)) c) rest) (min v (2 ^ 64)) ≡ min (cond b (exact_value (v * 10 + (c - 48)) rest) v) (2 ^ 64)
step v c rest true h = h
step v c rest false h = refl

pub exact : (v : ℕ) (t : Letters) → number_value (min v (2 ^ 64)) t ≡ min (exact_value v t) (2 ^ 64)
exact v (stop e q) = refl
exact v (letter c q rest) =
    step v c rest (is_digit c) (ap (λ x. number_value x rest) (capped v (c - 48) (2 ^ 64)) ∙ exact (v * 10 + (c - 48)) rest)

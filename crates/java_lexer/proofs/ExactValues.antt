-- A value is counted up to 2 ^ 64.
use Rattle.std.proofs.Common.{◌≡◌, ℕ, ◌+◌, ◌*◌, ◌^◌, ◌≤◌, min, Bool, true, false, eqb, cond, refl, ◌∙◌, ap, arith, inl, inr}
use Rattle.std.proofs.lemmas.Bool.Decides.{leb_tells}
use Rattle.std.specs.Char.{digit_value}
use Rattle.java_characters.specs.Letters.{Letters, letter, stop}
use Rattle.java_lexer.specs.Numbers.{in_radix, value_with, run_value}
use Rattle.java_lexer.specs.Laws.{exact_with, exact_value}

grows : (r v d : ℕ) → 1 ≤ r → v ≤ v * r + d
grows r v d h = grind arith

capped : (r v d top : ℕ) → 1 ≤ r → min (min v top * r + d) top ≡ min (v * r + d) top
capped r v d top h =
    elim (leb_tells v top) [
      | inl t ↦ let e : min v top ≡ v = omega (arith, t.1) in ap (λ x. min (x * r + d) top) e
      | inr t ↦
          let e : min v top ≡ top = omega (arith, t.1) in
          ap (λ x. min (x * r + d) top) e ∙ omega (arith, t.1, grows r top d h, grows r v d h)
    ]

with_more : (r v c : ℕ) (b : Bool) → 1 ≤ r → cond b (min v (2 ^ 64)) (min (min v (2 ^ 64) * r + digit_value c) (2 ^ 64)) ≡ min (cond b v (v * r + digit_value c)) (2 ^ 64)
with_more r v c true h = refl
with_more r v c false h = capped r v (digit_value c) (2 ^ 64) h

step : (r v c : ℕ) (rest : Letters) (b : Bool) → run_value r (value_with r (min v (2 ^ 64)) c) rest ≡ min (exact_value r (exact_with r v c) rest) (2 ^ 64) →
    cond b (run_value r (value_with r (min v (2 ^ 64)) c) rest) (min v (2 ^ 64)) ≡ min (cond b (exact_value r (exact_with r v c) rest) v) (2 ^ 64)
step r v c rest true h = h
step r v c rest false h = refl

pub exact : (r v : ℕ) (t : Letters) → 1 ≤ r → run_value r (min v (2 ^ 64)) t ≡ min (exact_value r v t) (2 ^ 64)
exact r v (stop e q) h = refl
exact r v (letter c q rest) h =
    step r v c rest (in_radix r c) (ap (λ x. run_value r x rest) (with_more r v c (eqb c 95) h) ∙ exact r (exact_with r v c) rest h)

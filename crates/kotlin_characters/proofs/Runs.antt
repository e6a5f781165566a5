-- How the loop over a number of letters goes on.
use Rattle.std.proofs.Common.{◌≡◌, ℕ, zero, suc, ◌+◌, ◌-◌, ◌<◌, refl, sym, ◌∙◌, ap, arith}
use Rattle.kotlin_tree.specs.declared.places.Position.{Position}
use Rattle.kotlin_characters.specs.declared.letters.Ending.{Ending}
use Rattle.kotlin_characters.specs.Letters.{Letters, letter, stop}
use Rattle.kotlin_characters.specs.Scans.{tail, drop_letters}

drop_stop : (k : ℕ) (e : Ending) (q : Position) → drop_letters k (stop e q) ≡ stop e q
drop_stop zero e q = refl
drop_stop (suc k) e q = refl

drop_suc : (k : ℕ) (t : Letters) → drop_letters (suc k) t ≡ drop_letters k (tail t)
drop_suc k (letter c p rest) = refl
drop_suc k (stop e q) = sym (drop_stop k e q)

-- one more letter is dropped
pub drop_more : (n i : ℕ) (t : Letters) → i < n → drop_letters (n - (i + 1)) (tail t) ≡ drop_letters (n - i) t
drop_more n i t h =
    let e : n - i ≡ suc (n - (i + 1)) = omega (arith, h) in
    sym (ap (λ k. drop_letters k t) e ∙ drop_suc (n - (i + 1)) t)

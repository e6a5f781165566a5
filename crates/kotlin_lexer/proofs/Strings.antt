-- How the loop over a String literal goes on.
use Rattle.std.proofs.Common.{◌≡◌, ℕ, zero, suc, List, [], ◌∷◌, ◌++◌, refl, sym, ◌∙◌, ap}
use Rattle.kotlin_tree.specs.declared.places.Position.{Position}
use Rattle.kotlin_lexer.specs.declared.literals.Quoted.TheVariants.{Unit}
use Rattle.kotlin_characters.specs.Letters.{Letters, letter, stop}
use Rattle.kotlin_characters.specs.Scans.{drop_letters}
use Rattle.kotlin_lexer.specs.declared.literals.Quote.TheVariants.{Double}
use Rattle.kotlin_lexer.specs.Literals.{meaning_of, string_at, string_turn}

-- the letters that belong to an escape are passed over
skipped : (p : Position) (n : ℕ) (us : List ℕ) (t : Letters) → string_at p n us t ≡ string_at p 0 us (drop_letters n t)
skipped p zero us t = refl
skipped p (suc n) us (letter c q rest) = skipped p n us rest
skipped p (suc n) us (stop e q) = refl

-- one more unit
pub one_more : (p : Position) (us vs : List ℕ) (t : Letters) (c : ℕ) (q : Position) (rest after : Letters) (u n : ℕ) →
    t ≡ letter c q rest → Unit u n ≡ meaning_of Double c rest → after ≡ drop_letters n rest → vs ≡ us ++ u ∷ [] → string_at p 0 vs after ≡ string_at p 0 us t
one_more p us vs t c q rest after u n e m a v =
    let here : string_at p 0 us t ≡ string_at p n (us ++ u ∷ []) rest =
    ap (λ x. string_at p 0 us x) e ∙ ap (λ x. string_turn p us x (letter c q rest) rest (λ k ws. string_at p k ws rest)) (sym m) in
    ap (λ x. string_at p 0 x after) v ∙ (ap (λ x. string_at p 0 (us ++ u ∷ []) x) a ∙ (sym (skipped p n (us ++ u ∷ []) rest) ∙ sym here))

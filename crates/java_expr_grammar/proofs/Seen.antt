-- Lists of tokens as the grammar sees them.
use Rattle.std.proofs.Common.{◌≡◌, ◌++◌, List, [], ◌∷◌, length, suc, refl, ap}
use Rattle.java_tree.specs.declared.tokens.JToken.{JToken}
use Rattle.java_tree.specs.Seen.{seen, token_seen}

pub length_seen : (xs : List JToken) → length (seen xs) ≡ length xs
unfolding seen
length_seen [] = refl
length_seen (x ∷ xs) = ap suc (length_seen xs)

pub seen_more : (xs : List JToken) (x : JToken) → seen (xs ++ x ∷ []) ≡ seen xs ++ token_seen x ∷ []
unfolding seen
seen_more [] x = refl
seen_more (y ∷ xs) x = ap (λ r. token_seen y ∷ r) (seen_more xs x)

pub seen_none : seen [] ≡ []
unfolding seen
seen_none = refl

pub none_seen : (xs : List JToken) → seen xs ≡ [] → xs ≡ []
unfolding seen
none_seen [] e = refl
none_seen (x ∷ xs) e = absurd (cc e)

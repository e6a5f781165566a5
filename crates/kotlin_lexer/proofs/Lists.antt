-- A list from its end.
use Rattle.std.proofs.Common.{◌≡◌, List, [], ◌∷◌, ◌++◌, reverse}
use Rattle.std.proofs.lemmas.List.{reverse-append, length-reverse}

pub reverse_more : {A : Type 0} (xs : List A) (x : A) → reverse (xs ++ x ∷ []) ≡ x ∷ reverse xs
reverse_more xs x = reverse-append xs (x ∷ [])

pub ruleset lists = (reverse_more, length-reverse)

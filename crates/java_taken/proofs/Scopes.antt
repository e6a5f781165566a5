-- Names in a table of Strings.
use Rattle.std.proofs.Common.{◌≡◌, Bool, List, [], ◌∷◌, ◌||◌, map, refl, ap}
use Rattle.std.specs.List.{list_any}

-- a test of the images
pub any_image : {A B : Type 0} (f : A → B) (test : B → Bool) (xs : List A) → list_any (λ x. test (f x)) xs ≡ list_any test (map f xs)
any_image f test [] = refl
any_image f test (x ∷ xs) = ap (λ b. test (f x) || b) (any_image f test xs)

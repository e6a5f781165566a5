-- Lists that are made piece by piece.
use Rattle.std.proofs.Common.{◌≡◌, ℕ, ◌+◌, ◌<◌, List, [], ◌∷◌, ◌++◌, ◌⊎◌, inl, inr, Option, Some, None, suc, zero, map, length, slice_get, option_map, refl, ap, sym, ◌∙◌, arith, length-append, append_assoc, append-nil}
use Rattle.std.proofs.lemmas.List.{map-append}
use Rattle.std.proofs.lemmas.Option.{none-some, slice_get-map}

pub joined : {A B : Type 0} (f : A → B) (a b : List B) (xs ys : List A) → a ≡ map f xs → b ≡ map f ys → a ++ b ≡ map f (xs ++ ys)
joined f a b xs ys h k = ap (λ z. z ++ b) h ∙ ap (λ z. map f xs ++ z) k ∙ sym (map-append f xs ys)

pub map_long : {A B : Type 0} (f : A → B) (xs : List A) → length (map f xs) ≡ length xs
map_long f [] = refl
map_long f (x ∷ xs) = ap suc (map_long f xs)

pub long_by : {A B : Type 0} (f : A → B) (ys : List B) (xs : List A) → ys ≡ map f xs → length ys ≡ length xs
long_by f ys xs h = ap length h ∙ map_long f xs

pub get_by : {A B : Type 0} (f : A → B) (ys : List B) (xs : List A) (k : ℕ) (x : A) → ys ≡ map f xs → slice_get xs k ≡ Some x → slice_get ys k ≡ Some (f x)
get_by f ys xs k x h get = ap (λ z. slice_get z k) h ∙ slice_get-map f xs k ∙ ap (option_map f) get

pub get_left : {A : Type 0} (xs ys : List A) (k : ℕ) (x : A) → slice_get xs k ≡ Some x → slice_get (xs ++ ys) k ≡ Some x
get_left [] ys k x h = absurd (none-some x h)
get_left (y ∷ xs) ys zero x h = h
get_left (y ∷ xs) ys (suc k) x h = get_left xs ys k x h

pub get_right : {A : Type 0} (xs ys : List A) (k : ℕ) (x : A) → slice_get ys k ≡ Some x → (j : ℕ) × (slice_get (xs ++ ys) j ≡ Some x)
get_right [] ys k x h = (k, h)
get_right (y ∷ xs) ys k x h = let r : (j : ℕ) × (slice_get (xs ++ ys) j ≡ Some x) = get_right xs ys k x h in (suc r.0, r.1)

pub get_split : {A : Type 0} (xs ys : List A) (k : ℕ) (x : A) → slice_get (xs ++ ys) k ≡ Some x → (slice_get xs k ≡ Some x) ⊎ ((j : ℕ) × (slice_get ys j ≡ Some x))
get_split [] ys k x h = inr (k, h)
get_split (y ∷ xs) ys zero x h = inl h
get_split (y ∷ xs) ys (suc k) x h = get_split xs ys k x h

pub get_some : {A : Type 0} (xs : List A) (k : ℕ) → k < length xs → (x : A) × (slice_get xs k ≡ Some x)
get_some [] k h = absurd (omega (arith, h))
get_some (x ∷ xs) zero h = (x, refl)
get_some (x ∷ xs) (suc k) h = let i : k < length xs = omega (arith, h) in get_some xs k i

-- Lists: what is in them.
use Rattle.std.proofs.Common.{◌≡◌, ◌⊎◌, inl, inr, Bool, true, false, List, [], ◌∷◌, ◌++◌, map, refl, ap, sym, ◌∙◌}
use Rattle.std.specs.List.{filter}
use Rattle.std.proofs.lemmas.List.{map-append}
use Rattle.std.proofs.lemmas.List.Elements.{filter-append}
use Rattle.java_members.specs.Members.{IsIn}

pub ruleset appends = (map-append, filter-append)

pub in_left : {A : Type 0} (x : A) (xs ys : List A) → IsIn x xs → IsIn x (xs ++ ys)
in_left x [] ys h = absurd h
in_left x (y ∷ xs) ys (inl e) = inl e
in_left x (y ∷ xs) ys (inr h) = inr (in_left x xs ys h)

pub in_right : {A : Type 0} (x : A) (xs ys : List A) → IsIn x ys → IsIn x (xs ++ ys)
in_right x [] ys h = h
in_right x (y ∷ xs) ys h = inr (in_right x xs ys h)

pub in_split : {A : Type 0} (x : A) (xs ys : List A) → IsIn x (xs ++ ys) → IsIn x xs ⊎ IsIn x ys
in_split x [] ys h = inr h
in_split x (y ∷ xs) ys (inl e) = inl (inl e)
in_split x (y ∷ xs) ys (inr h) = elim (in_split x xs ys h) [ inl a ↦ inl (inr a) | inr b ↦ inr b ]

pub in_map : {A B : Type 0} (f : A → B) (x : A) (xs : List A) → IsIn x xs → IsIn (f x) (map f xs)
in_map f x [] h = absurd h
in_map f x (y ∷ xs) (inl e) = inl (ap f e)
in_map f x (y ∷ xs) (inr h) = inr (in_map f x xs h)

pub map_in : {A B : Type 0} (f : A → B) (y : B) (xs : List A) → IsIn y (map f xs) → (x : A) × (IsIn x xs × (y ≡ f x))
map_in f y [] h = absurd h
map_in f y (x ∷ xs) (inl e) = (x, (inl refl, e))
map_in f y (x ∷ xs) (inr h) = let r : (z : _) × (IsIn z xs × (y ≡ f z)) = map_in f y xs h in (r.0, (inr r.1.0, r.1.1))

pub in_filter : {A : Type 0} (p : A → Bool) (x : A) (xs : List A) → IsIn x xs → p x ≡ true → IsIn x (filter p xs)
in_filter p x [] h is = absurd h
in_filter p x (y ∷ xs) (inl e) is = rw (ap p (sym e) ∙ is) (inl e)
in_filter p x (y ∷ xs) (inr h) is =
    (elim (p y) as (λ b. p y ≡ b → IsIn x (filter p (y ∷ xs))) [
      | true ↦ λ e. rw e (inr (in_filter p x xs h is))
      | false ↦ λ e. rw e (in_filter p x xs h is)
    ]) refl

pub filter_in : {A : Type 0} (p : A → Bool) (x : A) (xs : List A) → IsIn x (filter p xs) → IsIn x xs × (p x ≡ true)
filter_in p x [] h = absurd h
filter_in p x (y ∷ xs) h =
    (elim (p y) as (λ b. p y ≡ b → IsIn x (filter p (y ∷ xs)) → IsIn x (y ∷ xs) × (p x ≡ true)) [
      | true ↦ λ e g. (let k : (x ≡ y) ⊎ IsIn x (filter p xs) = rw e at g in
          elim k [ inl s ↦ (inl s, ap p s ∙ e) | inr r ↦ (let z : IsIn x xs × (p x ≡ true) = filter_in p x xs r in (inr z.0, z.1)) ])
      | false ↦ λ e g. (let k : IsIn x (filter p xs) = rw e at g in let z : IsIn x xs × (p x ≡ true) = filter_in p x xs k in (inr z.0, z.1))
    ]) refl h

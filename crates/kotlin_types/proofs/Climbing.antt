-- What is found to be a subtype stands below, and what stands below is found.
use Rattle.std.proofs.Common.{◌≡◌, ◌<◌, ◌≤◌, ◌⊎◌, inl, inr, ℕ, zero, suc, Bool, true, false, List, [], ◌∷◌, ◌++◌, map, refl, sym, ap, subst, ◌∙◌, arith}
use Rattle.std.specs.Prelude.{◌&&◌, ◌||◌}
use Rattle.std.specs.List.{list_any}
use Rattle.kotlin_types.specs.declared.kinds.KHead.{KHead}
use Rattle.kotlin_types.specs.declared.kinds.KHead.TheVariants as head
use Rattle.kotlin_types.specs.declared.kinds.KKind.{KKind}
use Rattle.kotlin_types.specs.declared.classes.KClasses.{KClasses}
use Rattle.kotlin_types.specs.Types.{head_of, nullability_of, same_but_null, same_head}
use Rattle.kotlin_types.specs.Supertypes.{above, climbed, direct, is_nothing, is_subtype, joined, meets, takes_null}
use Rattle.kotlin_types.specs.Below.{Below, HasHeights, IsIn, Widens, nothing, up, wider}
use Rattle.kotlin_types.proofs.Sameness.{and_holds, and_tells, but_null_same, but_null_tells, head_tells}

-- ---- members of lists

told_by : (p : KKind → Bool) (x : KKind) (xs : List KKind) (b : Bool) → p x ≡ b → (b || list_any p xs) ≡ true →
    (list_any p xs ≡ true → (y : KKind) × IsIn y xs × (p y ≡ true)) → (y : KKind) × IsIn y (x ∷ xs) × (p y ≡ true)
told_by p x xs true e h rest = (x, inl refl, e)
told_by p x xs false e h rest = let found = rest h in (found.0, inr found.1, found.2)

any_tells : (p : KKind → Bool) (xs : List KKind) → list_any p xs ≡ true → (x : KKind) × IsIn x xs × (p x ≡ true)
any_tells p [] h = cc
any_tells p (x ∷ xs) h = told_by p x xs (p x) refl h (any_tells p xs)

any_holds : (p : KKind → Bool) (xs : List KKind) (x : KKind) → IsIn x xs → p x ≡ true → list_any p xs ≡ true
any_holds p [] x i h = absurd i
any_holds p (y ∷ ys) x (inl e) h = ap (λ c. c || list_any p ys) (sym (ap p e) ∙ h)
any_holds p (y ∷ ys) x (inr i) h = ap (λ c. p y || c) (any_holds p ys x i h) ∙ or_true (p y)
  where
    or_true : (b : Bool) → (b || true) ≡ true
    or_true true = refl
    or_true false = refl

pub in_append : {A : Type 0} (x : A) (xs ys : List A) → IsIn x (xs ++ ys) → IsIn x xs ⊎ IsIn x ys
in_append x [] ys i = inr i
in_append x (z ∷ zs) ys (inl e) = inl (inl e)
in_append x (z ∷ zs) ys (inr i) = elim (in_append x zs ys i) [ inl a ↦ inl (inr a) | inr b ↦ inr b ]

pub in_left : {A : Type 0} (x : A) (xs ys : List A) → IsIn x xs → IsIn x (xs ++ ys)
in_left x [] ys i = absurd i
in_left x (z ∷ zs) ys (inl e) = inl e
in_left x (z ∷ zs) ys (inr i) = inr (in_left x zs ys i)

pub in_right : {A : Type 0} (x : A) (xs ys : List A) → IsIn x ys → IsIn x (xs ++ ys)
in_right x [] ys i = i
in_right x (z ∷ zs) ys i = inr (in_right x zs ys i)

joined_tells : (f : KKind → List KKind) (xs : List KKind) (y : KKind) → IsIn y (joined (map f xs)) → (x : KKind) × IsIn x xs × IsIn y (f x)
joined_tells f [] y i = absurd i
joined_tells f (x ∷ xs) y i = elim (in_append y (f x) (joined (map f xs)) i) [
  | inl a ↦ (x, inl refl, a)
  | inr b ↦ (let rest = joined_tells f xs y b in (rest.0, inr rest.1, rest.2))
]

joined_holds : (f : KKind → List KKind) (xs : List KKind) (x y : KKind) → IsIn x xs → IsIn y (f x) → IsIn y (joined (map f xs))
joined_holds f [] x y i j = absurd i
joined_holds f (z ∷ zs) x y (inl e) j = in_left y (f z) (joined (map f zs)) (subst (λ w. IsIn y (f w)) e j)
joined_holds f (z ∷ zs) x y (inr i) j = in_right y (f z) (joined (map f zs)) (joined_holds f zs x y i j)

-- ---- what meets

or_tells : (a b : Bool) → (a || b) ≡ true → (a ≡ true) ⊎ (b ≡ true)
or_tells true b h = inl refl
or_tells false b h = inr h

pub meets_below : (classes : KClasses) (s b : KKind) → meets b s ≡ true → Below classes s b
meets_below classes s b h = elim (or_tells _ _ h) [
  | inl n ↦ (let both = and_tells (is_nothing s) _ n in nothing s b (head_tells _ _ both.0) both.1)
  | inr w ↦ (let both = and_tells (same_but_null s b) _ w in
      let parts = but_null_tells s b both.0 in
      wider s b (record { heads = parts.0; arguments = parts.1; nulls = both.1 }))
]

or_left : (a b : Bool) → a ≡ true → (a || b) ≡ true
or_left true b h = refl
or_left false b h = cc

or_right : (a b : Bool) → b ≡ true → (a || b) ≡ true
or_right true b h = refl
or_right false b h = h

nothing_meets : (a b : KKind) → head_of a ≡ head.Nothing → takes_null (nullability_of a) (nullability_of b) ≡ true → meets b a ≡ true
nothing_meets a b h t = or_left _ _ (and_holds (is_nothing a) _ (ap (λ z. same_head z head.Nothing) h) t)

pub wider_meets : (a b : KKind) → Widens a b → meets b a ≡ true
wider_meets a b w = or_right (is_nothing a && takes_null (nullability_of a) (nullability_of b)) _ (and_holds (same_but_null a b) _ (but_null_same a b w.heads w.arguments) w.nulls)

-- ---- the way up

climbed_itself : (classes : KClasses) (n : ℕ) (x : KKind) → IsIn x (climbed classes n x)
climbed_itself classes zero x = inl refl
climbed_itself classes (suc n) x = inl refl

climbed_below : (classes : KClasses) (n : ℕ) (a s b : KKind) → IsIn s (climbed classes n a) → Below classes s b → Below classes a b
climbed_below classes zero a s b (inl e) d = subst (λ z. Below classes z b) e d
climbed_below classes zero a s b (inr i) d = absurd i
climbed_below classes (suc n) a s b (inl e) d = subst (λ z. Below classes z b) e d
climbed_below classes (suc n) a s b (inr i) d =
    let through = joined_tells (climbed classes n) (direct classes a) s i in
    up a through.0 b through.1 (climbed_below classes n through.0 s b through.2 d)

pub above_below : (classes : KClasses) (a s b : KKind) → IsIn s (above classes a) → Below classes s b → Below classes a b
unfolding above
above_below classes a s b i d = climbed_below classes classes.steps a s b i d

pub subtype_below : (classes : KClasses) (a b : KKind) → is_subtype classes a b ≡ true → Below classes a b
subtype_below classes a b h =
    let found = any_tells (meets b) (above classes a) h in
    above_below classes a found.0 b found.1 (meets_below classes found.0 b found.2)

-- a type is below itself, and below what takes more of null
pub met : (classes : KClasses) (a b : KKind) → meets b a ≡ true → is_subtype classes a b ≡ true
unfolding above
met classes a b h = any_holds (meets b) (climbed classes classes.steps a) a (climbed_itself classes classes.steps a) h

module _ (classes : KClasses) (height : KHead → ℕ) (high : HasHeights classes height) where
  reached : (n : ℕ) (a b : KKind) → height (head_of a) ≤ n → Below classes a b → (s : KKind) × IsIn s (climbed classes n a) × (meets b s ≡ true)
  reached n _ _ low (nothing a b h t) = (a, climbed_itself classes n a, nothing_meets a b h t)
  reached n _ _ low (wider a b w) = (a, climbed_itself classes n a, wider_meets a b w)
  reached zero _ _ low (up a s b i d) =
      let falls : height (head_of s) < height (head_of a) = high.0 a s i in
      absurd (omega arith)
  reached (suc n) _ _ low (up a s b i d) =
      let falls : height (head_of s) < height (head_of a) = high.0 a s i in
      let rest = reached n s b (omega arith) d in
      (rest.0, inr (joined_holds (climbed classes n) (direct classes a) s rest.0 i rest.1), rest.2)

  pub below_subtype : (a b : KKind) → Below classes a b → is_subtype classes a b ≡ true
  unfolding above
  below_subtype a b d =
      let found = reached classes.steps a b (high.1 (head_of a)) d in
      any_holds (meets b) (climbed classes classes.steps a) found.0 found.1 found.2

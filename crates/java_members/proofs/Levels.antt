-- The levels are what stands above a class over so many steps.
use Rattle.std.proofs.Common.{◌≡◌, ◌⊎◌, inl, inr, ℕ, zero, suc, ◌+◌, ◌<◌, ◌≤◌, Bool, true, false, ◌&&◌, List, [], ◌∷◌, ◌++◌, Option, Some, None, refl, ap, sym, subst, ◌∙◌, arith}
use Rattle.std.specs.Prelude.{slice_get, nat_eq}
use Rattle.std.specs.List.{list_any}
use Rattle.std.proofs.lemmas.Bool.Decides.{Decides-eqb}
use Rattle.java_members.specs.declared.classes.Class.{Class}
use Rattle.java_members.specs.declared.classes.Sort.{Sort}
use Rattle.java_members.specs.declared.walks.Reached.{Reached}
use Rattle.java_members.specs.Members.{IsIn, hides, agree, same_reached, with_one, home_is, with_above, with_above_of, next_from, next, levels, above}
use Rattle.java_members.proofs.Lists.{in_left, in_right, in_split}

abbrev pub at : ℕ → Bool → Reached
at class near = record { class = class; is_near = near }

-- ---- one more

pub false_true : false ≡ true → ⊥
false_true h = cc

and_left : (a b : Bool) → (a && b) ≡ true → a ≡ true
and_left true b h = refl
and_left false b h = h

and_right : (a b : Bool) → (a && b) ≡ true → b ≡ true
and_right true b h = h
and_right false b h = absurd (false_true h)

agree_is : (a b : Bool) → agree a b ≡ true → a ≡ b
agree_is true b h = sym h
agree_is false true h = absurd (false_true h)
agree_is false false h = refl

same_is : (x y : Reached) → same_reached x y ≡ true → x ≡ y
same_is x y h =
    let class : x.class ≡ y.class = (Decides-eqb x.class y.class).0 (and_left (nat_eq x.class y.class) (agree x.is_near y.is_near) h) in
    let near : x.is_near ≡ y.is_near = agree_is x.is_near y.is_near (and_right (nat_eq x.class y.class) (agree x.is_near y.is_near) h) in
    ap (λ c. at c x.is_near) class ∙ ap (at y.class) near

any_in : (x : Reached) (xs : List Reached) → list_any (same_reached x) xs ≡ true → IsIn x xs
any_in x [] h = absurd (false_true h)
any_in x (y ∷ ys) h =
    (elim (same_reached x y) as (λ b. same_reached x y ≡ b → IsIn x (y ∷ ys)) [
      | true ↦ λ e. inl (same_is x y e)
      | false ↦ λ e. inr (any_in x ys (rw e at h))
    ]) refl

one_keeps : (xs : List Reached) (x y : Reached) → IsIn y xs → IsIn y (with_one xs x)
one_keeps xs x y h =
    (elim (list_any (same_reached x) xs) as (λ b. list_any (same_reached x) xs ≡ b → IsIn y (with_one xs x)) [
      | true ↦ λ e. rw e h
      | false ↦ λ e. rw e (in_left y xs (x ∷ []) h)
    ]) refl

one_has : (xs : List Reached) (x : Reached) → IsIn x (with_one xs x)
one_has xs x =
    (elim (list_any (same_reached x) xs) as (λ b. list_any (same_reached x) xs ≡ b → IsIn x (with_one xs x)) [
      | true ↦ λ e. rw e (any_in x xs e)
      | false ↦ λ e. rw e (in_right x xs (x ∷ []) (inl refl))
    ]) refl

one_sound : (xs : List Reached) (x y : Reached) → IsIn y (with_one xs x) → IsIn y xs ⊎ (y ≡ x)
one_sound xs x y h =
    (elim (list_any (same_reached x) xs) as (λ b. list_any (same_reached x) xs ≡ b → IsIn y (with_one xs x) → IsIn y xs ⊎ (y ≡ x)) [
      | true ↦ λ e g. inl (rw e at g)
      | false ↦ λ e g. (let k : IsIn y (xs ++ x ∷ []) = rw e at g in
          elim (in_split y xs (x ∷ []) k) [ inl i ↦ inl i | inr j ↦ elim j [ inl s ↦ inr s | inr z ↦ absurd z ] ])
    ]) refl h

module _ (table : List Class) where
  -- ---- what stands above one

  abbrev pub step : Bool → List ℕ → ℕ → Reached
  step near home b = at b (near && home_is home (slice_get table b))

  above_keeps : (near : Bool) (home : List ℕ) (bs : List ℕ) (xs : List Reached) (y : Reached) → IsIn y xs → IsIn y (with_above table xs near home bs)
  above_keeps near home [] xs y h = h
  above_keeps near home (b ∷ bs) xs y h = above_keeps near home bs (with_one xs (step near home b)) y (one_keeps xs (step near home b) y h)

  above_has : (near : Bool) (home : List ℕ) (bs : List ℕ) (xs : List Reached) (b : ℕ) → IsIn b bs → IsIn (step near home b) (with_above table xs near home bs)
  above_has near home [] xs b h = absurd h
  above_has near home (c ∷ bs) xs b (inl e) =
      above_keeps near home bs (with_one xs (step near home c)) (step near home b)
      (subst (λ z. IsIn (step near home z) (with_one xs (step near home c))) (sym e) (one_has xs (step near home c)))
  above_has near home (c ∷ bs) xs b (inr h) = above_has near home bs (with_one xs (step near home c)) b h

  above_sound : (near : Bool) (home : List ℕ) (bs : List ℕ) (xs : List Reached) (y : Reached) → IsIn y (with_above table xs near home bs) →
      IsIn y xs ⊎ ((b : ℕ) × (IsIn b bs × (y ≡ step near home b)))
  above_sound near home [] xs y h = inl h
  above_sound near home (c ∷ bs) xs y h =
      elim (above_sound near home bs (with_one xs (step near home c)) y h) [
        | inl i ↦ elim (one_sound xs (step near home c) y i) [ inl j ↦ inl j | inr e ↦ inr (c, (inl refl, e)) ]
        | inr p ↦ inr (p.0, (inr p.1.0, p.1.1))
      ]

module _ (table : List Class) (sort : Sort) (name : List ℕ) where
  -- what stands above one that is reached
  pub data Goes (r : Reached) : Reached → Type 0 where
    Up : {class : Class} {b : ℕ} → slice_get table r.class ≡ Some class → hides sort name class ≡ false → IsIn b class.above → Goes r (step table r.is_near class.home b)

  of_keeps : (near : Bool) (o : Option Class) (xs : List Reached) (y : Reached) → IsIn y xs → IsIn y (with_above_of table sort name xs near o)
  of_keeps near None xs y h = h
  of_keeps near (Some class) xs y h =
      (elim (hides sort name class) as (λ b. hides sort name class ≡ b → IsIn y (with_above_of table sort name xs near (Some class))) [
        | true ↦ λ e. rw e h
        | false ↦ λ e. rw e (above_keeps table near class.home class.above xs y h)
      ]) refl

  of_has : (near : Bool) (class : Class) (xs : List Reached) (b : ℕ) → hides sort name class ≡ false → IsIn b class.above →
      IsIn (step table near class.home b) (with_above_of table sort name xs near (Some class))
  of_has near class xs b shown h = rw shown (above_has table near class.home class.above xs b h)

  of_sound : (r : Reached) (o : Option Class) (xs : List Reached) (y : Reached) → slice_get table r.class ≡ o →
      IsIn y (with_above_of table sort name xs r.is_near o) → IsIn y xs ⊎ Goes r y
  of_sound r None xs y get h = inl h
  of_sound r (Some class) xs y get h =
      (elim (hides sort name class) as (λ b. hides sort name class ≡ b → IsIn y (with_above_of table sort name xs r.is_near (Some class)) → IsIn y xs ⊎ Goes r y) [
        | true ↦ λ e g. inl (rw e at g)
        | false ↦ λ e g. (let k : IsIn y (with_above table xs r.is_near class.home class.above) = rw e at g in
            elim (above_sound table r.is_near class.home class.above xs y k) [
              | inl i ↦ inl i
              | inr p ↦ inr (subst (Goes r) (sym p.1.1) (Up get e p.1.0))
            ])
      ]) refl h

  -- ---- a level

  from_keeps : (rs : List Reached) (xs : List Reached) (y : Reached) → IsIn y xs → IsIn y (next_from table sort name xs rs)
  from_keeps [] xs y h = h
  from_keeps (r ∷ rs) xs y h =
      from_keeps rs (with_above_of table sort name xs r.is_near (slice_get table r.class)) y (of_keeps r.is_near (slice_get table r.class) xs y h)

  goes_in : (r y : Reached) (xs : List Reached) → Goes r y → IsIn y (with_above_of table sort name xs r.is_near (slice_get table r.class))
  goes_in r _ xs (Up {class} {b} get shown h) = rw get (of_has r.is_near class xs b shown h)

  from_has : (rs : List Reached) (xs : List Reached) (r y : Reached) → IsIn r rs → Goes r y → IsIn y (next_from table sort name xs rs)
  from_has [] xs r y h goes = absurd h
  from_has (q ∷ rs) xs r y (inl e) goes =
      from_keeps rs (with_above_of table sort name xs q.is_near (slice_get table q.class)) y (goes_in q y xs (subst (λ z. Goes z y) e goes))
  from_has (q ∷ rs) xs r y (inr h) goes = from_has rs (with_above_of table sort name xs q.is_near (slice_get table q.class)) r y h goes

  from_sound : (rs : List Reached) (xs : List Reached) (y : Reached) → IsIn y (next_from table sort name xs rs) →
      IsIn y xs ⊎ ((r : Reached) × (IsIn r rs × Goes r y))
  from_sound [] xs y h = inl h
  from_sound (q ∷ rs) xs y h =
      elim (from_sound rs (with_above_of table sort name xs q.is_near (slice_get table q.class)) y h) [
        | inl i ↦ elim (of_sound q (slice_get table q.class) xs y refl i) [ inl j ↦ inl j | inr g ↦ inr (q, (inl refl, g)) ]
        | inr p ↦ inr (p.0, (inr p.1.0, p.1.1))
      ]

  -- ---- the levels

  -- a way up from one over so many steps, the last step last
  pub data Way (a : ℕ) : ℕ → Reached → Type 0 where
    Start : Way a zero (at a true)
    Further : {k : ℕ} {r y : Reached} → Way a k r → Goes r y → Way a (suc k) y

  abbrev pub level : ℕ → ℕ → List Reached
  level a zero = at a true ∷ []
  level a (suc k) = next table sort name (level a k)

  pub way_in : (a k : ℕ) (r : Reached) → Way a k r → IsIn r (level a k)
  way_in a _ _ Start = inl refl
  way_in a (suc k) y (Further {r = r} way goes) = from_has (level a k) [] r y (way_in a k r way) goes

  pub in_way : (a k : ℕ) (r : Reached) → IsIn r (level a k) → Way a k r
  in_way a zero r (inl e) = subst (Way a zero) (sym e) Start
  in_way a zero r (inr z) = absurd z
  in_way a (suc k) y h =
      elim (from_sound (level a k) [] y h) [
        | inl z ↦ absurd z
        | inr p ↦ Further (in_way a k p.0 p.1.0) p.1.1
      ]

  levels_has : (a n j i : ℕ) (r : Reached) → i < n → IsIn r (level a (i + j)) → IsIn r (levels table sort name n (level a j))
  levels_has a zero j i r less h = absurd (omega arith)
  levels_has a (suc n) j zero r less h =
      let e : 0 + j ≡ j = omega arith in
      in_left r (level a j) (levels table sort name n (level a (suc j))) (subst (λ z. IsIn r (level a z)) e h)
  levels_has a (suc n) j (suc i) r less h =
      let e : suc i + j ≡ i + suc j = omega arith in
      let g : IsIn r (level a (i + suc j)) = subst (λ z. IsIn r (level a z)) e h in
      in_right r (level a j) (levels table sort name n (level a (suc j))) (levels_has a n (suc j) i r (omega arith) g)

  levels_way : (a n j : ℕ) (r : Reached) → IsIn r (levels table sort name n (level a j)) → (k : ℕ) × Way a k r
  levels_way a zero j r h = absurd h
  levels_way a (suc n) j r h =
      elim (in_split r (level a j) (levels table sort name n (level a (suc j))) h) [
        | inl i ↦ (j, in_way a j r i)
        | inr i ↦ levels_way a n (suc j) r i
      ]

  -- what is reached over a step or more, at most so many, stands in the levels
  pub above_complete : (a steps k : ℕ) (r : Reached) → Way a (suc k) r → suc k ≤ steps → IsIn r (above table sort name steps a)
  above_complete a steps k r way few =
      let e : suc k ≡ k + 1 = omega arith in
      levels_has a steps 1 k r (omega arith) (subst (λ z. IsIn r (level a z)) e (way_in a (suc k) r way))

  pub above_way : (a steps : ℕ) (r : Reached) → IsIn r (above table sort name steps a) → (k : ℕ) × Way a k r
  above_way a steps r h = levels_way a steps 1 r h

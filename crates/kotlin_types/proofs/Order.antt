-- Subtyping is an order, and null stays where it may be.
use Rattle.std.proofs.Common.{◌≡◌, ◌≢◌, ◌<◌, ◌⊎◌, inl, inr, ℕ, true, List, [], ◌∷◌, map, refl, sym, ap, subst, ◌∙◌, arith}
use Rattle.kotlin_types.specs.declared.kinds.KHead.{KHead}
use Rattle.kotlin_types.specs.declared.kinds.KHead.TheVariants as head
use Rattle.kotlin_types.specs.declared.kinds.Nullability.{Nullability}
use Rattle.kotlin_types.specs.declared.kinds.Nullability.TheVariants as null
use Rattle.kotlin_types.specs.declared.kinds.KKind.{KKind}
use Rattle.kotlin_types.specs.declared.kinds.KKind.TheOpen.{KKind-F}
use Rattle.kotlin_types.specs.declared.classes.KClasses.{KClasses}
use Rattle.kotlin_types.specs.Types.{arguments_of, head_of, is_within, lift, lifted, nullability_of, nullable}
use Rattle.kotlin_types.specs.Supertypes.{direct, is_subtype, supers_of, takes_null}
use Rattle.kotlin_types.specs.Below.{Below, HasHeights, HasValues, IsIn, Widens, nothing, up, wider}
use Rattle.kotlin_types.proofs.Forms.{one_type, out_type}
use Rattle.kotlin_types.proofs.Nulls.{also_within, lifts, takes_also, takes_on, within_also, within_both, within_itself, within_trans}
use Rattle.kotlin_types.proofs.Climbing.{below_subtype, met, subtype_below, wider_meets}

pub widens_itself : (a : KKind) → Widens a a
widens_itself a = record { heads = refl; arguments = refl; nulls = within_itself (nullability_of a) }

pub widens_trans : (a b c : KKind) → Widens a b → Widens b c → Widens a c
widens_trans a b c w v = record { heads = w.heads ∙ v.heads; arguments = w.arguments ∙ v.arguments; nulls = within_trans _ _ _ w.nulls v.nulls }

pub below_its_nullable : (a : KKind) → Widens a (nullable a)
below_its_nullable a = record {
  heads = sym (ap (λ (o : KKind-F KKind). o.head) (out_type _ _ _));
  arguments = sym (ap (λ (o : KKind-F KKind). o.arguments) (out_type _ _ _));
  nulls = ap (is_within (nullability_of a)) (ap (λ (o : KKind-F KKind). o.nullability) (out_type _ _ _)) ∙ within_also (nullability_of a);
}

-- ---- supertypes are lifted

lift_widens : (n m : Nullability) (x : KKind) → is_within n m ≡ true → Widens (lift n x) (lift m x)
lift_widens n m x h = record {
  heads = ap (λ (o : KKind-F KKind). o.head) (out_type _ _ _) ∙ sym (ap (λ (o : KKind-F KKind). o.head) (out_type _ _ _));
  arguments = ap (λ (o : KKind-F KKind). o.arguments) (out_type _ _ _) ∙ sym (ap (λ (o : KKind-F KKind). o.arguments) (out_type _ _ _));
  nulls = ap (λ z. is_within z (nullability_of (lift m x))) (ap (λ (o : KKind-F KKind). o.nullability) (out_type _ _ _))
      ∙ (ap (is_within (lifted n (nullability_of x))) (ap (λ (o : KKind-F KKind). o.nullability) (out_type _ _ _)) ∙ lifts n m (nullability_of x) h);
}

lifted_in : (n m : Nullability) (xs : List KKind) (s : KKind) → is_within n m ≡ true → IsIn s (map (lift m) xs) → (t : KKind) × IsIn t (map (lift n) xs) × Widens t s
lifted_in n m [] s h i = absurd i
lifted_in n m (x ∷ xs) s h (inl e) = (lift n x, inl refl, subst (Widens (lift n x)) (sym e) (lift_widens n m x h))
lifted_in n m (x ∷ xs) s h (inr i) =
    let rest = lifted_in n m xs s h i in
    (rest.0, inr rest.1, rest.2)

-- a supertype of what is above but for the `?` is above too
direct_in : (classes : KClasses) (a b s : KKind) → Widens a b → IsIn s (direct classes b) → (t : KKind) × IsIn t (direct classes a) × Widens t s
direct_in classes a b s w i =
    let found = lifted_in (nullability_of a) (nullability_of b) (supers_of classes (head_of b) (arguments_of b)) s w.nulls i in (
      found.0,
      subst (λ h. IsIn found.0 (map (lift (nullability_of a)) (supers_of classes h (arguments_of a)))) (sym w.heads)
          (subst (λ args. IsIn found.0 (map (lift (nullability_of a)) (supers_of classes (head_of b) args))) (sym w.arguments) found.1),
      found.2,
    )

also_lifted : (xs : List KKind) (s : KKind) (n : Nullability) → n ≡ null.Also → IsIn s (map (lift n) xs) → nullability_of s ≡ null.Also
also_lifted [] s n e i = absurd i
also_lifted (x ∷ xs) s n e (inl is) = ap nullability_of is ∙ (ap (λ (o : KKind-F KKind). o.nullability) (out_type _ _ _) ∙ ap (λ z. lifted z (nullability_of x)) e)
also_lifted (x ∷ xs) s n e (inr i) = also_lifted xs s n e i

-- `T?` is below nullable types alone
pub also_below : (classes : KClasses) (a b : KKind) → Below classes a b → nullability_of a ≡ null.Also → nullability_of b ≡ null.Also
also_below classes _ _ (nothing a b h t) e = takes_also (nullability_of a) (nullability_of b) e t
also_below classes _ _ (wider a b w) e = also_within (nullability_of b) (sym (ap (λ z. is_within z (nullability_of b)) e) ∙ w.nulls)
also_below classes _ _ (up a s b i d) e = also_below classes s b d (also_lifted (supers_of classes (head_of a) (arguments_of a)) s (nullability_of a) e i)

-- ---- transitivity

lower : (classes : KClasses) (a b c : KKind) → Widens a b → Below classes b c → Below classes a c
lower classes a _ _ w (nothing b c h t) = nothing a c (w.heads ∙ h) (narrower (nullability_of a) (nullability_of b) (nullability_of c) w.nulls t)
  where
    narrower : (x y z : Nullability) → is_within x y ≡ true → takes_null y z ≡ true → takes_null x z ≡ true
    narrower null.Never y z h t = refl
    narrower null.Parameter y z h t = refl
    narrower null.Also y z h t = subst (λ v. takes_null v z ≡ true) (also_within y h) t
lower classes a _ _ w (wider b c v) = wider a c (widens_trans a b c w v)
lower classes a _ _ w (up b s c i d) =
    let found = direct_in classes a b s w i in
    up a found.0 c found.1 (lower classes found.0 s c found.2 d)

pub below_trans : (classes : KClasses) (a b c : KKind) → Below classes a b → Below classes b c → Below classes a c
below_trans classes _ _ c (nothing a b h t) e = nothing a c h (takes_on (nullability_of a) (nullability_of b) (nullability_of c) t (also_below classes b c e))
below_trans classes _ _ c (wider a b w) e = lower classes a b c w e
below_trans classes _ _ c (up a s b i d) e = up a s c i (below_trans classes s b c d e)

-- ---- heights

module _ (classes : KClasses) (height : KHead → ℕ) (high : HasHeights classes height) where
  -- what is below is wider alone, or lower
  falls : HasValues classes → (a b : KKind) → head_of a ≢ head.Nothing → Below classes a b → Widens a b ⊎ (height (head_of b) < height (head_of a))
  falls values _ _ some (nothing a b h t) = absurd (some h)
  falls values _ _ some (wider a b w) = inl w
  falls values _ _ some (up a s b i d) =
      let step : height (head_of s) < height (head_of a) = high.0 a s i in
      elim (falls values s b (values a s i) d) [
        | inl w ↦ inr (subst (λ h. height h < height (head_of a)) w.heads step)
        | inr l ↦ inr (less _ _ _ l step)
      ]
    where
      less : (x y z : ℕ) → x < y → y < z → x < z
      less x y z l m = omega arith

  pub below_antisym : HasValues classes → (a b : KKind) → head_of a ≢ head.Nothing → head_of b ≢ head.Nothing → Below classes a b → Below classes b a → a ≡ b
  below_antisym values a b na nb d e = elim (falls values a b na d) [
    | inl w ↦ elim (falls values b a nb e) [
      | inl v ↦ one_type a b w.heads w.arguments (within_both (nullability_of a) (nullability_of b) w.nulls v.nulls)
      | inr l ↦ absurd (same_height _ _ (ap height w.heads) l)
    ]
    | inr l ↦ elim (falls values b a nb e) [
      | inl v ↦ absurd (same_height _ _ (ap height v.heads) l)
      | inr m ↦ absurd (both_ways _ _ l m)
    ]
  ]
    where
      same_height : (x y : ℕ) → x ≡ y → x < y → ⊥
      same_height x y e l = omega arith

      both_ways : (x y : ℕ) → x < y → y < x → ⊥
      both_ways x y l m = omega arith

  -- type parameters are invariant
  pub below_invariant : HasValues classes → (a b : KKind) → head_of a ≢ head.Nothing → head_of a ≡ head_of b → Below classes a b → arguments_of a ≡ arguments_of b
  below_invariant values a b na e d = elim (falls values a b na d) [
    | inl w ↦ w.arguments
    | inr l ↦ absurd (same_height _ _ (ap height e) l)
  ]
    where
      same_height : (x y : ℕ) → x ≡ y → y < x → ⊥
      same_height x y e l = omega arith

  pub subtype_trans : (a b c : KKind) → is_subtype classes a b ≡ true → is_subtype classes b c ≡ true → is_subtype classes a c ≡ true
  subtype_trans a b c h g = below_subtype classes height high a c (below_trans classes a b c (subtype_below classes a b h) (subtype_below classes b c g))

  pub subtype_antisym : HasValues classes → (a b : KKind) → head_of a ≢ head.Nothing → head_of b ≢ head.Nothing → is_subtype classes a b ≡ true → is_subtype classes b a ≡ true → a ≡ b
  subtype_antisym values a b na nb h g = below_antisym values a b na nb (subtype_below classes a b h) (subtype_below classes b a g)

  pub subtype_invariant : HasValues classes → (a b : KKind) → head_of a ≢ head.Nothing → head_of a ≡ head_of b → is_subtype classes a b ≡ true → arguments_of a ≡ arguments_of b
  subtype_invariant values a b na e h = below_invariant values a b na e (subtype_below classes a b h)

pub subtype_itself : (classes : KClasses) (a : KKind) → is_subtype classes a a ≡ true
subtype_itself classes a = met classes a a (wider_meets a a (widens_itself a))

pub subtype_nullable : (classes : KClasses) (a : KKind) → is_subtype classes a (nullable a) ≡ true
subtype_nullable classes a = met classes a (nullable a) (wider_meets a (nullable a) (below_its_nullable a))

pub nullable_below : (classes : KClasses) (a b : KKind) → is_subtype classes a b ≡ true → nullability_of a ≡ null.Also → nullability_of b ≡ null.Also
nullable_below classes a b h = also_below classes a b (subtype_below classes a b h)

-- The test of what may be named tells what may be named.
use Rattle.std.proofs.Common.{◌≡◌, ◌⊎◌, inl, inr, ℕ, suc, Bool, true, false, ◌||◌, List, [], ◌∷◌, Option, Some, None, refl, subst}
use Rattle.std.specs.Prelude.{slice_get, nat_eq}
use Rattle.std.specs.List.{list_any}
use Rattle.std.proofs.lemmas.Bool.Decides.{Decides-eqb}
use Rattle.std.proofs.lemmas.Slice.Eq.{bytes_eq-Decides}
use Rattle.java_members.specs.declared.classes.Access.{Access}
use Rattle.java_members.specs.declared.classes.Access.TheVariants as access
use Rattle.java_members.specs.declared.classes.Class.{Class}
use Rattle.java_members.specs.declared.classes.Sort.TheVariants as sort
use Rattle.java_members.specs.declared.walks.Reached.{Reached}
use Rattle.java_members.specs.Members.{IsIn, above}
use Rattle.java_members.specs.Access.{IsAbove, Itself, Above, AreOfOnePackage, IsAccessible, homes_are_same, is_of_one_package, is_above, is_accessible}
use Rattle.java_members.proofs.Levels.{false_true, Way, Start, Further, Up, above_way}

either : (a b : Bool) → (a || b) ≡ true → (a ≡ true) ⊎ (b ≡ true)
either true b h = inl refl
either false b h = inr h

any_class : (c : ℕ) (rs : List Reached) → list_any (λ r. nat_eq r.class c) rs ≡ true → (r : Reached) × (IsIn r rs × (r.class ≡ c))
any_class c [] h = absurd (false_true h)
any_class c (r ∷ rs) h =
    (elim (nat_eq r.class c) as (λ b. nat_eq r.class c ≡ b → (q : Reached) × (IsIn q (r ∷ rs) × (q.class ≡ c))) [
      | true ↦ λ e. (r, (inl refl, (Decides-eqb r.class c).0 e))
      | false ↦ λ e. (let p : (q : Reached) × (IsIn q rs × (q.class ≡ c)) = any_class c rs (rw e at h) in (p.0, (inr p.1.0, p.1.1)))
    ]) refl

module _ (table : List Class) where
  more : (a b c : ℕ) (class : Class) → IsAbove table a b → slice_get table b ≡ Some class → IsIn c class.above → IsAbove table a c
  more a _ c class Itself get up = Above get up Itself
  more a b c class (Above {b = d} get_a up_a rest) get up = Above get_a up_a (more d b c class rest get up)

  climbed : (a k : ℕ) (r : Reached) → Way table sort.Method [] a k r → IsAbove table a r.class
  climbed a _ _ Start = Itself
  climbed a (suc k) _ (Further {r = q} way (Up {class} {b} get shown up)) = more a q.class b class (climbed a k q way) get up

  package_by : (a c : ℕ) (x y : Option Class) → slice_get table a ≡ x → slice_get table c ≡ y → homes_are_same x y ≡ true → AreOfOnePackage table a c
  package_by a c None y ex ey h = absurd (false_true h)
  package_by a c (Some x) None ex ey h = absurd (false_true h)
  package_by a c (Some x) (Some y) ex ey h = (x, y, ex, ey, (bytes_eq-Decides x.home y.home).0 h)

  package_is : (a c : ℕ) → is_of_one_package table a c ≡ true → AreOfOnePackage table a c
  package_is a c h = package_by a c (slice_get table a) (slice_get table c) refl refl h

  above_is : (steps a c : ℕ) → is_above table steps a c ≡ true → IsAbove table a c
  above_is steps a c h =
      elim (either (nat_eq a c) (list_any (λ r. nat_eq r.class c) (above table sort.Method [] steps a)) h) [
        | inl e ↦ subst (IsAbove table a) ((Decides-eqb a c).0 e) Itself
        | inr e ↦ (let p : (r : Reached) × (IsIn r (above table sort.Method [] steps a) × (r.class ≡ c)) = any_class c (above table sort.Method [] steps a) e in
            let w : (k : ℕ) × Way table sort.Method [] a k p.0 = above_way table sort.Method [] a steps p.0 p.1.0 in
            subst (IsAbove table a) p.1.1 (climbed a w.0 p.0 w.1))
      ]

  pub sound : (steps a c : ℕ) (x : Access) → is_accessible table steps a c x ≡ true → IsAccessible table a c x
  sound steps a c access.Public h = tt
  sound steps a c access.Protected h =
      elim (either (is_of_one_package table a c) (is_above table steps a c) h) [ inl e ↦ inl (package_is a c e) | inr e ↦ inr (above_is steps a c e) ]
  sound steps a c access.Package h = package_is a c h
  sound steps a c access.Private h = (Decides-eqb a c).0 h

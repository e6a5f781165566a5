-- Subtypes of classes are what stands below them.
use Rattle.std.proofs.Common.{◌≡◌, ◌↔◌, ◌<◌, ◌≤◌, ◌+◌, ℕ, true, List, Option, Some, None, sym, ap, ◌∙◌, arith}
use Rattle.java_typed.specs.declared.types.ClassRef.{ClassRef}
use Rattle.java_typed.specs.declared.types.TType.{TType, out-TType}
use Rattle.java_typed.specs.declared.types.TType.TheOpen.{TType-F}
use Rattle.java_typed.specs.declared.types.TType.TheVariants as t
use Rattle.java_type_relations.specs.declared.heads.Heads.{Heads}
use Rattle.java_type_relations.specs.declared.supers.Sought.TheVariants as sought
use Rattle.java_type_relations.specs.Supers.{supertype}
use Rattle.java_type_relations.specs.Subtypes.{apart_forms, below_forms, below_parts, is_subtype, reached}
use Rattle.java_type_relations.specs.Above.{Above, Climbs, HasClassesAbove, HasHeights, HasOneOfEach, IsBounded, here, on}
use Rattle.java_type_relations.proofs.Forms.{out_class, out_variable}
use Rattle.java_type_relations.proofs.Sameness.{same_itself, same_tells}
use Rattle.java_type_relations.proofs.Nodes.{class_is_node}
use Rattle.java_type_relations.proofs.Ways.{supertype_is}
use Rattle.java_type_relations.proofs.Found.{is_it}

class_below : (heads : Heads) (c d : ClassRef) (xs ys : List TType) →
    is_subtype heads (t.Class c xs) (t.Class d ys) ≡ reached (t.Class d ys) (supertype heads (sought.Class d) (t.Class c xs))
class_below heads c d xs ys =
    ap (λ f. below_parts heads (apart_forms f (out-TType (t.Class d ys)) (t.Class c xs) (t.Class d ys))) (out_class c xs)
    ∙ ap (λ f. below_forms heads (t.Class c xs) (t.Class d ys) f (out-TType (t.Class d ys))) (out_class c xs)
    ∙ ap (below_forms heads (t.Class c xs) (t.Class d ys) (TType-F.Class c xs)) (out_class d ys)

parameter_below : (heads : Heads) (c d : ClassRef) (n : ℕ) (ys : List TType) →
    is_subtype heads (t.Variable c n) (t.Class d ys) ≡ reached (t.Class d ys) (supertype heads (sought.Class d) (t.Variable c n))
parameter_below heads c d n ys =
    ap (λ f. below_parts heads (apart_forms f (out-TType (t.Class d ys)) (t.Variable c n) (t.Class d ys))) (out_variable c n)
    ∙ ap (λ f. below_forms heads (t.Variable c n) (t.Class d ys) f (out-TType (t.Class d ys))) (out_variable c n)
    ∙ ap (below_forms heads (t.Variable c n) (t.Class d ys) (TType-F.Variable c n)) (out_class d ys)

reached_tells : (y : TType) (o : Option TType) → reached y o ≡ true → o ≡ Some y
reached_tells y None h = cc
reached_tells y (Some x) h = ap Some (same_tells x y h)

module _ (heads : Heads) (above : HasClassesAbove heads) (bounded : IsBounded heads) (each : HasOneOfEach heads) where
  reaches_above : (x : TType) (d : ClassRef) (ys : List TType) → reached (t.Class d ys) (supertype heads (sought.Class d) x) ≡ true → Above heads x (t.Class d ys)
  reaches_above x d ys h = (supertype_is heads (sought.Class d) x (t.Class d ys) (reached_tells (t.Class d ys) (supertype heads (sought.Class d) x) h)).0

  above_reaches : (x : TType) (d : ClassRef) (ys : List TType) → Above heads x (t.Class d ys) → reached (t.Class d ys) (supertype heads (sought.Class d) x) ≡ true
  above_reaches x d ys a =
      ap (reached (t.Class d ys)) (is_it heads above bounded each (sought.Class d) x (t.Class d ys) a (class_is_node d ys)) ∙ same_itself (t.Class d ys)

  pub class_below_is : (c d : ClassRef) (xs ys : List TType) → (is_subtype heads (t.Class c xs) (t.Class d ys) ≡ true) ↔ Above heads (t.Class c xs) (t.Class d ys)
  class_below_is c d xs ys =
      (λ h. reaches_above (t.Class c xs) d ys (sym (class_below heads c d xs ys) ∙ h), λ a. class_below heads c d xs ys ∙ above_reaches (t.Class c xs) d ys a)

  pub parameter_below_is : (c d : ClassRef) (n : ℕ) (ys : List TType) → (is_subtype heads (t.Variable c n) (t.Class d ys) ≡ true) ↔ Above heads (t.Variable c n) (t.Class d ys)
  parameter_below_is c d n ys =
      (λ h. reaches_above (t.Variable c n) d ys (sym (parameter_below heads c d n ys) ∙ h), λ a. parameter_below heads c d n ys ∙ above_reaches (t.Variable c n) d ys a)

-- ---- heights

low : (heads : Heads) (height : TType → ℕ) → HasHeights heads height → (x y : TType) (n : ℕ) → Climbs heads x n y → n + height y ≤ height x
low heads height falls x _ _ here = omega arith
low heads height falls x _ _ (on n y z c d) =
    let before : n + height y ≤ height x = low heads height falls x y n c in
    let step : height z < height y = falls.0 y z d in
    omega arith

pub bounded_by : (heads : Heads) (height : TType → ℕ) → HasHeights heads height → IsBounded heads
bounded_by heads height falls x y n c =
    let most : n + height y ≤ height x = low heads height falls x y n c in
    let below : height x < heads.steps = falls.1 x in
    omega arith

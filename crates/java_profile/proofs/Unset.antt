-- Where no class breaks the rule on unset statics, none is unset below a class that isn't calm.
use Rattle.std.proofs.Common.{◌≡◌, ℕ, zero, suc, ◌+◌, Bool, true, false, not, ◌&&◌, ◌==◌, List, [], ◌∷◌, Option, Some, None, refl, subst, ◌∙◌, slice_get, is_none, if◌then◌else◌, arith}
use Rattle.java_typed.specs.declared.types.ClassRef.{ClassRef}
use Rattle.java_typed.specs.declared.types.ClassRef.TheVariants as class
use Rattle.java_typed.specs.declared.members.MemberRef.{MemberRef}
use Rattle.java_typed.specs.declared.exprs.TExpr.{TExpr}
use Rattle.java_typed.specs.declared.statements.TBody.{TBody}
use Rattle.java_typed.specs.declared.units.TField.{TField}
use Rattle.java_typed.specs.declared.units.TInitializer.{TInitializer}
use Rattle.java_typed.specs.declared.units.TInitializer.TheVariants as part
use Rattle.java_typed.specs.declared.units.TMember.{TMember}
use Rattle.java_typed.specs.declared.units.TMember.TheVariants as m
use Rattle.java_typed.specs.declared.units.TClass.{TClass}
use Rattle.java_typed.specs.declared.units.TUnit.{TUnit}
use Rattle.java_flow.specs.Variables.{JavaAct, same_class}
use Rattle.facts.specs.Items.{Constant, Declared, Unset}
use Rattle.facts.specs.Layout.{unset}
use Rattle.facts.specs.Classes as f
use Rattle.facts.specs.Classes.{Class, in_java}
use Rattle.java_facts.specs.Kinds.{Sort, Primitive, Boxed, Text, NullType, Other, sort_of}
use Rattle.java_facts.specs.Expressions.{JavaUsed, JavaUses, Known, seen}
use Rattle.java_facts.specs.Statements.{nth}
use Rattle.java_facts.specs.Items.{JavaItem, given_item, box_item, items, value_of, field_item, field_items, block_items, bodies_use, equal, is_constant_variable}
use Rattle.java_facts.specs.Sets as s
use Rattle.java_facts.specs.Project.{classes_of, class_facts, numbered, all_facts, known, most, same_place, NoneUnset}
use Rattle.java_profile.specs.Unset.{NoneLate, AllKept}
use Rattle.java_profile.specs.Classes.{value_at, is_late_static, statics_lead}

-- ---- values of fields

value_none_by : (b : Bool) (x : TExpr) (bodies : List TBody) (o : Option (TExpr × List TBody)) (p : Option TExpr) → (o ≡ None → p ≡ None) → (if b then Some (x, bodies) else o) ≡ None → (if b then Some x else p) ≡ None
value_none_by true x bodies o p k h = cc
value_none_by false x bodies o p k h = k h

module _ (k : Known) (is_set : ℕ → TField → Bool) (c : TClass) (place : ℕ) where
  value_none : (is : List TInitializer) → value_of k is_set c place is ≡ None → value_at place is ≡ None
  value_none [] h = refl
  value_none (part.Value n x bodies ∷ more) h = value_none_by (n == place) x bodies (value_of k is_set c place more) (value_at place more) (value_none more) h
  value_none (part.Block at b xs ∷ more) h = value_none more h

-- ---- what is no unset item

box_is_set : (n z : Bool) (place : ℕ) (u : JavaUses) (more : List JavaItem) → unset (box_item n z place u ∷ more) ≡ unset more
box_is_set true z place u more = refl
box_is_set false true place u more = refl
box_is_set false false place u more = refl

if_given : (b : Bool) (x y : JavaItem) (more : List JavaItem) → unset (x ∷ more) ≡ unset more → unset (y ∷ more) ≡ unset more → unset ((if b then x else y) ∷ more) ≡ unset more
if_given true x y more h k = h
if_given false x y more h k = k

given_is_set : (t : Sort) (place : ℕ) (e : JavaUsed) (more : List JavaItem) → unset (given_item t place e ∷ more) ≡ unset more
given_is_set Primitive place e more = if_given e.is_zero _ _ more refl refl
given_is_set Boxed place e more = box_is_set e.is_null e.is_zero place e.uses more
given_is_set Text place e more = if_given e.is_null _ _ more refl refl
given_is_set NullType place e more = if_given e.is_null _ _ more refl refl
given_is_set Other place e more = if_given e.is_null _ _ more refl refl

-- ---- a static that isn't late

set_so : (is_static : Bool) (v : Option TExpr) (is_set leads : Bool) → is_static ≡ true → v ≡ None → leads ≡ false → (is_static && (is_none v && not is_set && not leads)) ≡ false → is_set ≡ true
set_so true None true false p q r h = refl
set_so true None false false p q r h = cc
set_so false v is_set leads p q r h = cc
set_so true (Some x) is_set leads p q r h = cc
set_so true None is_set true p q r h = cc

module _ (is_accessor : MemberRef → Bool) (inner : ℕ → ℕ → JavaAct) (units : List TUnit) where
  abbrev late : ℕ → TClass → ℕ → TField → Bool
  late = is_late_static is_accessor inner units

  module _ (number : ℕ) (c : TClass) where
    late_at : (n i : ℕ) (fs : List TField) (x : TField) → NoneLate is_accessor inner units number c n fs → slice_get fs i ≡ Some x → late number c (n + i) x ≡ false
    late_at n i [] x h e = cc
    late_at n zero (y ∷ more) x h e = subst (λ (z : Option TField). is_so z) e (subst (λ (j : ℕ). late number c j y ≡ false) (omega arith) h.0)
      where
        is_so : Option TField → Type 0
        is_so None = Unit {0}
        is_so (Some z) = late number c (n + zero) z ≡ false
    late_at n (suc i) (y ∷ more) x h e = subst (λ (j : ℕ). late number c j x ≡ false) (omega arith) (late_at (suc n) i more x h.1 e)

    -- ---- the items of the static part

    abbrev k : Known
    k = known is_accessor inner units

    abbrev is_set : ℕ → TField → Bool
    is_set = s.is_set number (inner number) c

    abbrev value_used : TExpr × List TBody → JavaUsed
    value_used v = (seen k (nth (bodies_use k is_set c v.1)) v.0).used

    declared_so : (b : Bool) (place : ℕ) (more : List JavaItem) → b ≡ true → unset ((if b then Declared place else Unset place) ∷ more) ≡ unset more
    declared_so true place more h = refl
    declared_so false place more h = cc

    field_kept : (place : ℕ) (x : TField) (v : Option (TExpr × List TBody)) (more : List JavaItem) → (v ≡ None → is_set place x ≡ true) → unset (field_item k is_set c place x v ∷ more) ≡ unset more
    field_kept place x None more h = declared_so (is_set place x) place more (h refl)
    field_kept place x (Some v) more h = if_given (x.modifiers.is_static && is_constant_variable x v.0) (Constant place (value_used v).is_zero) (given_item (sort_of x.kind.kind) place (value_used v)) more refl (given_is_set (sort_of x.kind.kind) place (value_used v) more)

    if_static : (b : Bool) (x : JavaItem) (more : List JavaItem) → (b ≡ true → unset (x ∷ more) ≡ unset more) → unset more ≡ [] → unset (if equal k is_set c true b then x ∷ more else more) ≡ []
    if_static true x more h e = h refl ∙ e
    if_static false x more h e = e

    field_step : (place : ℕ) (o : Option TField) (more : List JavaItem) →
        ((x : TField) → o ≡ Some x → x.modifiers.is_static ≡ true → value_of k is_set c place c.initializers ≡ None → is_set place x ≡ true) → unset more ≡ [] → unset (field_items k is_set c true place o more) ≡ []
    field_step place None more h e = e
    field_step place (Some x) more h e = if_static x.modifiers.is_static _ more (λ q. field_kept place x (value_of k is_set c place c.initializers) more (λ r. h x refl q r)) e

    block_step : (o : Option TInitializer) (more : List JavaItem) → unset more ≡ [] → unset (block_items k is_set c true o more) ≡ []
    block_step None more e = e
    block_step (Some (part.Value n x bodies)) more e = e
    block_step (Some (part.Block at b xs)) more e = if_static b _ more (λ q. refl) e

    module _ (kept : NoneLate is_accessor inner units number c 0 c.fields) (leads_not : statics_lead is_accessor inner units number c ≡ false) where
      is_set_at : (place : ℕ) (x : TField) → slice_get c.fields place ≡ Some x → x.modifiers.is_static ≡ true → value_of k is_set c place c.initializers ≡ None → is_set place x ≡ true
      is_set_at place x e q r =
          set_so x.modifiers.is_static (value_at place c.initializers) (is_set place x) (statics_lead is_accessor inner units number c) q (value_none k is_set c place c.initializers r) leads_not
          (subst (λ (j : ℕ). late number c j x ≡ false) (omega arith) (late_at 0 place c.fields x kept e))

      items_kept : (order : List TMember) → unset (items k is_set c true order) ≡ []
      items_kept [] = refl
      items_kept (m.Field place ∷ more) = field_step place (slice_get c.fields place) (items k is_set c true more) (is_set_at place) (items_kept more)
      items_kept (m.Initializer place ∷ more) = block_step (slice_get c.initializers place) (items k is_set c true more) (items_kept more)
      items_kept (m.Method place ∷ more) = items_kept more
      items_kept (m.Constructor place ∷ more) = items_kept more
      items_kept (m.Type place ∷ more) = items_kept more

  -- ---- all classes

  abbrev facts_of : ℕ → TClass → Class ClassRef ℕ
  facts_of number c = class_facts is_accessor inner units number c

  abbrev leads : Class ClassRef ℕ → Bool
  leads x = f.statics_lead same_class (same_place is_accessor inner units) (in_java same_class (same_place is_accessor inner units)) (all_facts is_accessor inner units) (most is_accessor inner units) x

  kept_by : (number : ℕ) (c : TClass) (x : Class ClassRef ℕ) → NoneLate is_accessor inner units number c 0 c.fields → facts_of number c ≡ x → leads x ≡ false → unset x.statics ≡ []
  kept_by number c x kept e h = subst (λ (z : Class ClassRef ℕ). leads z ≡ false → unset z.statics ≡ []) e (λ q. items_kept number c kept q c.order) h

  chosen : (b : Bool) (number : ℕ) (c : TClass) (x : Class ClassRef ℕ) (o : Option (Class ClassRef ℕ)) → NoneLate is_accessor inner units number c 0 c.fields → (o ≡ Some x → leads x ≡ false → unset x.statics ≡ []) → (if b then Some (facts_of number c) else o) ≡ Some x → leads x ≡ false → unset x.statics ≡ []
  chosen true number c x o kept later e h = kept_by number c x kept (some_same (facts_of number c) x e) h
    where
      some_same : (y z : Class ClassRef ℕ) → Some y ≡ Some z → y ≡ z
      some_same y z e = cc
  chosen false number c x o kept later e h = later e h

  found_kept : (number : ℕ) (cs : List TClass) (d : ClassRef) (x : Class ClassRef ℕ) → AllKept is_accessor inner units number cs → f.find same_class (numbered is_accessor inner units number cs) d ≡ Some x → leads x ≡ false → unset x.statics ≡ []
  found_kept number [] d x kept e h = cc
  found_kept number (c ∷ more) d x kept e h = chosen (same_class (class.Project number) d) number c x (f.find same_class (numbered is_accessor inner units (suc number) more) d) kept.0 (found_kept (suc number) more d x kept.1) e h

  pub none_unset : AllKept is_accessor inner units 0 (classes_of units) → NoneUnset is_accessor inner units
  none_unset kept d x e h = found_kept 0 (classes_of units) d x kept e h

-- The facts of a project's classes and fields.
use Rattle.std.specs.Prelude.{◌≡◌, ℕ, suc, Bool, true, false, not, ◌&&◌, ◌||◌, ◌==◌, List, [], ◌∷◌, ◌++◌, map, Option, Some, None, length, slice_get, is_some}
use Rattle.java_typed.specs.declared.types.ClassRef.{ClassRef}
use Rattle.java_typed.specs.declared.types.ClassRef.TheVariants as class
use Rattle.java_typed.specs.declared.types.TType.{TType, out-TType}
use Rattle.java_typed.specs.declared.types.TType.TheOpen.{TType-F}
use Rattle.java_typed.specs.declared.members.MemberRef.{MemberRef}
use Rattle.java_typed.specs.declared.units.ClassSort.{ClassSort}
use Rattle.java_typed.specs.declared.units.ClassSort.TheVariants as sort
use Rattle.java_typed.specs.declared.units.TFirstCall.{TFirstCall}
use Rattle.java_typed.specs.declared.units.TFirstCall.TheVariants as first
use Rattle.java_typed.specs.declared.units.TConstructor.{TConstructor}
use Rattle.java_typed.specs.declared.units.TClass.{TClass}
use Rattle.java_typed.specs.declared.units.TUnit.{TUnit}
use Rattle.java_typed.specs.declared.statements.TBody.{TBody}
use Rattle.java_flow.specs.Variables.{JavaAct, same_class}
use Rattle.facts.specs.Uses.{none, both, keeps_this}
use Rattle.facts.specs.Items.{Unset, Default, Done, done, java, is_leading, items_use, stays_leading}
use Rattle.facts.specs.Layout.{unset}
use Rattle.facts.specs.Classes as f
use Rattle.facts.specs.Classes.{Class, in_java, in_kotlin}
use Rattle.java_facts.specs.Expressions.{JavaUses, Known}
use Rattle.java_facts.specs.Statements.{body_uses, values_use, statements_use}
use Rattle.java_facts.specs.Sets as s
use Rattle.java_facts.specs.Items.{JavaItem, items}

-- all classes in the order of the units
abbrev pub classes_of : List TUnit → List TClass
classes_of [] = []
classes_of (u ∷ units) = u.classes ++ classes_of units

-- ---- what a class says

-- the class above, of the project or not
abbrev pub above_by : TType-F TType → Option ClassRef
above_by (TType-F.Class c arguments) = Some c
above_by _ = None

abbrev pub above_of : Option TType → Option ClassRef
above_of None = None
above_of (Some t) = above_by (out-TType t)

abbrev pub is_interface_sort : ClassSort → Bool
is_interface_sort sort.Interface = true
is_interface_sort _ = false

abbrev pub is_class_sort : ClassSort → Bool
is_class_sort sort.Class = true
is_class_sort _ = false

-- whether its objects hold one of the class around it (JLS 8.1.3)
abbrev pub is_inner_class : Option TClass → Bool
is_inner_class None = false
is_inner_class (Some c) = is_some c.around && is_class_sort c.sort && not c.modifiers.is_static

abbrev pub is_inner_in : List TClass → ClassRef → Bool
is_inner_in classes (class.Library n) = false
is_inner_in classes (class.Project n) = is_inner_class (slice_get classes n)

-- ---- what a class's constructors use

module _ (k : Known) where
  abbrev pub all_bodies : List TBody → List JavaUses
  all_bodies [] = []
  all_bodies (b ∷ more) = body_uses k b ∷ all_bodies more

  abbrev pub call_uses : TFirstCall → JavaUses
  call_uses first.Nothing = none
  call_uses (first.This at m arguments bodies) = values_use k (all_bodies bodies) arguments
  call_uses (first.Super at is_written m arguments bodies) = values_use k (all_bodies bodies) arguments

  abbrev pub constructors_use : List TConstructor → JavaUses
  constructors_use [] = none
  constructors_use (c ∷ more) = both (both (call_uses c.call) (statements_use k c.block.statements)) (constructors_use more)

-- ---- all classes, by the methods that are accessors, and what the bodies of anonymous classes do later: by the place of the class
-- around among all classes, and their place in its unit

module _ (is_accessor : MemberRef → Bool) (inner : ℕ → ℕ → JavaAct) (units : List TUnit) where
  abbrev pub known : Known
  known = record { is_accessor = is_accessor; is_inner = is_inner_in (classes_of units) }

  -- where no method is an accessor, one that is called on `this` is a call
  abbrev pub plainly_known : Known
  plainly_known = record { is_accessor = λ m. false; is_inner = is_inner_in (classes_of units) }

  abbrev pub part : Known → Bool → ℕ → TClass → List JavaItem
  part k is_static number c = items k (s.is_set number (inner number) c) c is_static c.order

  abbrev pub class_facts : ℕ → TClass → Class ClassRef ℕ
  class_facts number c = record {
    name = class.Project number;
    above = above_of c.above;
    is_interface = is_interface_sort c.sort;
    statics = part known true number c;
    fields = part known false number c;
    constructors = constructors_use known c.constructors;
    calls_accessor = not (constructors_use plainly_known c.constructors keeps_this && items_use (part plainly_known false number c) keeps_this);
  }

  abbrev pub numbered : ℕ → List TClass → List (Class ClassRef ℕ)
  numbered number [] = []
  numbered number (c ∷ more) = class_facts number c ∷ numbered (suc number) more

  abbrev pub all_facts : List (Class ClassRef ℕ)
  all_facts = numbered 0 (classes_of units)

  -- no class stands below more
  abbrev pub most : ℕ
  most = suc (length all_facts)

  abbrev pub same_place : ℕ → ℕ → Bool
  same_place m n = m == n

  -- ---- the facts

  abbrev pub is_closed : ClassRef → Bool
  is_closed = f.closed same_class same_place (in_java same_class same_place) all_facts most

  abbrev pub is_calm : ClassRef → Bool
  is_calm = f.calm same_class same_place (in_java same_class same_place) all_facts most

  abbrev pub is_idle : ClassRef → Bool
  is_idle = f.idle same_class same_place (in_java same_class same_place) all_facts most

  abbrev pub touches : ClassRef → ClassRef → Bool
  touches = f.touches same_class same_place (in_java same_class same_place) all_facts most

  -- what the static initializers of a class do
  abbrev pub initializers_do : Class ClassRef ℕ → List (Done ClassRef ℕ)
  initializers_do x = done (java (f.stores_static x.name)) (f.statics_lead same_class same_place (in_java same_class same_place) all_facts most x) x.statics

  -- no static is unset in a class below one that isn't calm
  abbrev pub NoneUnset : Type 0
  NoneUnset = (c : ClassRef) (x : Class ClassRef ℕ) → f.find same_class all_facts c ≡ Some x → f.statics_lead same_class same_place (in_java same_class same_place) all_facts most x ≡ false → unset x.statics ≡ []

  -- the classes as they are laid out, and where their uses touch
  abbrev pub laid_facts : List (Class ClassRef ℕ)
  laid_facts = map (f.laid_class same_class same_place (in_java same_class same_place) all_facts most) all_facts

  abbrev pub touches_laid : ClassRef → ClassRef → Bool
  touches_laid = f.touches same_class same_place (in_kotlin same_class same_place) laid_facts most

  abbrev pub is_closed_laid : ClassRef → Bool
  is_closed_laid = f.closed same_class same_place (in_kotlin same_class same_place) laid_facts most

  -- whether the field of a place has a leading default, given or absent, in a part where defaults lead at first or not
  abbrev pub is_leading_in : ℕ → Bool → List JavaItem → Bool
  is_leading_in place leads [] = false
  is_leading_in place leads (x ∷ more) = (is_leading leads x && is_of place x) || is_leading_in place (leads && stays_leading x) more
    where
      is_of : ℕ → JavaItem → Bool
      is_of n (Unset name) = n == name
      is_of n (Default name) = n == name
      is_of n _ = false

  abbrev pub is_leading_static : ℕ → ℕ → TClass → Bool
  is_leading_static place number c = is_leading_in place (f.statics_lead same_class same_place (in_java same_class same_place) all_facts most (class_facts number c)) (part known true number c)

  abbrev pub is_leading_field : ℕ → ℕ → TClass → Bool
  is_leading_field place number c = is_leading_in place (f.fields_lead same_class same_place (in_java same_class same_place) all_facts most (class_facts number c)) (part known false number c)

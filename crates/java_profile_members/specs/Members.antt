-- The rules on members.
use Rattle.std.specs.Prelude.{ℕ, zero, suc, Bool, true, false, not, ◌&&◌, ◌||◌, ◌==◌, bytes_eq, codes, List, [], ◌∷◌, ◌++◌, length, Option, Some, None, slice_get}
use Rattle.std.specs.List.{flat_map, list_any}
use Rattle.java_tree.specs.declared.tokens.Position.{Position}
use Rattle.java_lib.specs.Library as lib
use Rattle.java_typed.specs.declared.types.ClassRef.{ClassRef}
use Rattle.java_typed.specs.declared.types.ClassRef.TheVariants as class
use Rattle.java_typed.specs.declared.types.TType.{TType, out-TType}
use Rattle.java_typed.specs.declared.types.TType.TheOpen.{TType-F}
use Rattle.java_typed.specs.declared.types.TResult.{TResult}
use Rattle.java_typed.specs.declared.types.TResult.TheVariants as result
use Rattle.java_typed.specs.declared.members.Access.{Access}
use Rattle.java_typed.specs.declared.members.Access.TheVariants as access
use Rattle.java_typed.specs.declared.units.TField.{TField}
use Rattle.java_typed.specs.declared.units.TConstructor.{TConstructor}
use Rattle.java_typed.specs.declared.units.TClass.{TClass}
use Rattle.java_typed.specs.declared.units.TUnit.{TUnit}
use Rattle.java_type_relations.specs.declared.heads.Heads.{Heads}
use Rattle.java_type_relations.specs.Types.{same_kind}
use Rattle.java_type_relations.specs.Subtypes.{is_subtype}
use Rattle.java_facts.specs.Kinds.{is_box_class, is_string_class}
use Rattle.java_facts.specs.Project.{above_of}
use Rattle.java_profile.specs.Faults.{Fault, P4, P12, P14, P15, told}
use Rattle.java_profile.specs.Above.{anywhere, most}
use Rattle.java_profile_types.specs.Arrays.{differ, param_types}
use Rattle.java_profile_types.specs.Written.{is_throwable}
use Rattle.java_profile_members.specs.Methods.{Method, all_same, same_signature, own_methods, methods_above, inherited, of_superclasses, in_one_package}

-- ---- two methods that a call could confuse (own rule: Kotlin chooses by its own types, in which a box is its primitive type or may be null,
-- and a value has no conversion but to a supertype)

module _ (heads : Heads) where
  -- a class whose values are no values of other sorts
  abbrev pub is_own_sort : ClassRef → Bool
  is_own_sort (class.Library n) = not (n == lib.object_class || is_box_class (class.Library n))
  is_own_sort (class.Project n) = true

  -- no argument goes to both: two primitive types, one and String, two classes of which neither is below the other
  abbrev pub apart_by : TType → TType → TType-F TType → TType-F TType → Bool
  apart_by a b (TType-F.Number k) (TType-F.Number l) = not (same_kind k l)
  apart_by a b (TType-F.Number k) TType-F.Boolean = true
  apart_by a b TType-F.Boolean (TType-F.Number l) = true
  apart_by a b (TType-F.Number k) (TType-F.Class d ys) = is_string_class d
  apart_by a b TType-F.Boolean (TType-F.Class d ys) = is_string_class d
  apart_by a b (TType-F.Class c xs) (TType-F.Number l) = is_string_class c
  apart_by a b (TType-F.Class c xs) TType-F.Boolean = is_string_class c
  apart_by a b (TType-F.Class c xs) (TType-F.Class d ys) = is_own_sort c && is_own_sort d && not (is_subtype heads a b) && not (is_subtype heads b a)
  apart_by a b _ _ = false

  abbrev pub is_apart : TType → TType → Bool
  is_apart a b = apart_by a b (out-TType a) (out-TType b)

  abbrev pub any_apart : List TType → List TType → Bool
  any_apart [] ys = false
  any_apart (x ∷ xs) [] = false
  any_apart (x ∷ xs) (y ∷ ys) = is_apart x y || any_apart xs ys

  -- as many parameters, not all of the same types, and none apart
  abbrev pub are_close : List TType → List TType → Bool
  are_close xs ys = (length xs == length ys) && not (all_same xs ys) && not (any_apart xs ys)

  abbrev pub confuses : Method → Method → Bool
  confuses m n = bytes_eq m.name n.name && are_close m.params n.params

  -- any two of some methods
  abbrev pub any_confused : List Method → Bool
  any_confused [] = false
  any_confused (m ∷ more) = list_any (confuses m) more || any_confused more

  abbrev pub told_at : Bool → Option Position → List Fault
  told_at b None = []
  told_at b (Some at) = told b P14 at

  -- each at its own name, by those before it
  abbrev pub own_confused : List Method → List Method → List Fault
  own_confused before [] = []
  own_confused before (m ∷ more) = told_at (list_any (confuses m) before) m.at ++ own_confused (m ∷ before) more

  abbrev pub constructors_confused : List (List TType) → List TConstructor → List Fault
  constructors_confused before [] = []
  constructors_confused before (k ∷ more) = told (list_any (are_close (param_types k.params)) before) P14 k.at ++ constructors_confused (param_types k.params ∷ before) more

-- ---- results of overrides (Kotlin specification, inheritance: an override's result is a subtype, and arrays have none)

abbrev pub results_differ : TResult → TResult → Bool
results_differ (result.Value a) (result.Value b) = differ a b
results_differ _ _ = false

abbrev pub narrows : Method → Method → Bool
narrows m n = same_signature m n && results_differ m.result n.result

abbrev pub any_narrows : List Method → Bool
any_narrows [] = false
any_narrows (m ∷ more) = list_any (narrows m) more || any_narrows more

abbrev pub narrowed_at : Bool → Option Position → List Fault
narrowed_at b None = []
narrowed_at b (Some at) = told b P4 at

-- ---- fields (own rule: Kotlin's properties override, and its throwables have a `message`)

abbrev pub is_private : Access → Bool
is_private access.Private = true
is_private _ = false

abbrev pub is_package_private : Access → Bool
is_package_private access.Package = true
is_package_private _ = false

abbrev pub shows_field : List ℕ → TClass → Bool
shows_field name c = list_any (λ (f : TField). bytes_eq name f.name && not (is_private f.modifiers.access)) c.fields

module _ (heads : Heads) (units : List TUnit) (classes : List TClass) where
  -- whether the library's class above a class of the project is a throwable
  abbrev pub is_under_throwable : ℕ → Option ClassRef → Bool
  is_under_throwable zero c = false
  is_under_throwable (suc n) None = false
  is_under_throwable (suc n) (Some (class.Library m)) = is_throwable m
  is_under_throwable (suc n) (Some (class.Project m)) = higher (is_under_throwable n) (slice_get classes m)
    where
      higher : (Option ClassRef → Bool) → Option TClass → Bool
      higher on None = false
      higher on (Some x) = on (above_of x.above)

  abbrev pub is_message : TClass → TField → Bool
  is_message c f = not f.modifiers.is_static && bytes_eq f.name (codes "message") && is_under_throwable (most classes) (above_of c.above)

  abbrev pub field_faults : TClass → TField → List Fault
  field_faults c f = told (anywhere classes (shows_field f.name) (most classes) (above_of c.above) || is_message c f) P15 f.at

  -- ---- a class by its place among all classes

  abbrev pub own : ℕ → List Method
  own number = own_methods heads units classes (class.Project number)

  abbrev pub above : ℕ → List Method
  above number = methods_above heads units classes (class.Project number)

  -- own rule: all but private members are public in Kotlin, so that such a method would override
  abbrev pub is_far : ℕ → Method → Method → Bool
  is_far number m n = is_package_private n.access && not (in_one_package heads units classes (class.Project number) n.home) && same_signature m n

  abbrev pub far_at : Bool → Option Position → List Fault
  far_at b None = []
  far_at b (Some at) = told b P12 at

  abbrev pub method_faults : ℕ → Method → List Fault
  method_faults number m =
      far_at (list_any (is_far number m) (of_superclasses heads units classes (class.Project number))) m.at
      ++ (told_at heads (list_any (confuses heads m) (inherited heads units classes (class.Project number))) m.at
      ++ narrowed_at (list_any (narrows m) (above number)) m.at)

  abbrev pub class_faults : ℕ → TClass → List Fault
  class_faults number c =
      told (any_confused heads (inherited heads units classes (class.Project number))) P14 c.at
      ++ (told (any_narrows (inherited heads units classes (class.Project number))) P4 c.at
      ++ (flat_map (field_faults c) c.fields
      ++ (flat_map (method_faults number) (own number)
      ++ (own_confused heads [] (own number) ++ constructors_confused heads [] c.constructors))))

-- The methods of a class, its own and those that it inherits, with their types as the class has them (JLS 8.2, 8.4.8).
use Rattle.std.specs.Prelude.{ℕ, zero, suc, Bool, true, false, not, ◌&&◌, bytes_eq, List, [], ◌∷◌, ◌++◌, map, Option, Some, None, slice_get}
use Rattle.std.specs.List.{filter, flat_map, list_any}
use Rattle.java_tree.specs.declared.tokens.Position.{Position}
use Rattle.java_lib.specs.declared.rows.Form.{Form}
use Rattle.java_lib.specs.declared.rows.Form.TheVariants as forms
use Rattle.java_lib.specs.declared.rows.LibType.{LibType}
use Rattle.java_lib.specs.Library.{Member, members}
use Rattle.java_typed.specs.declared.types.ClassRef.{ClassRef}
use Rattle.java_typed.specs.declared.types.ClassRef.TheVariants as class
use Rattle.java_typed.specs.declared.types.TType.{TType, out-TType}
use Rattle.java_typed.specs.declared.types.TType.TheOpen.{TType-F}
use Rattle.java_typed.specs.declared.types.TResult.{TResult}
use Rattle.java_typed.specs.declared.types.TResult.TheVariants as result
use Rattle.java_typed.specs.declared.members.Access.{Access}
use Rattle.java_typed.specs.declared.members.Access.TheVariants as access
use Rattle.java_typed.specs.declared.units.TMethod.{TMethod}
use Rattle.java_typed.specs.declared.units.TClass.{TClass}
use Rattle.java_typed.specs.declared.units.TUnit.{TUnit}
use Rattle.java_type_relations.specs.declared.heads.Heads.{Heads}
use Rattle.java_type_relations.specs.Types.{put, same}
use Rattle.java_type_relations.specs.Heads.{supers_in}
use Rattle.java_facts.specs.Project.{is_interface_sort}
use Rattle.java_profile_types.specs.Arrays.{lib_type, param_types, result_type}

-- a method: the class that declares it, its name, the types of its parameters and its result, who may use it, whether it is called without
-- an object, and where its name stands
pub record Method : Type 0 where
  pub home : ClassRef
  pub name : List ℕ
  pub params : List TType
  pub result : TResult
  pub access : Access
  pub is_static : Bool
  pub at : Option Position

abbrev pub all_same : List TType → List TType → Bool
all_same [] [] = true
all_same [] (y ∷ ys) = false
all_same (x ∷ xs) [] = false
all_same (x ∷ xs) (y ∷ ys) = same x y && all_same xs ys

-- one signature (JLS 8.4.2)
abbrev pub same_signature : Method → Method → Bool
same_signature m n = bytes_eq m.name n.name && all_same m.params n.params

-- ---- packages, of all classes in the order of the units

abbrev pub same_package : List (List ℕ) → List (List ℕ) → Bool
same_package [] [] = true
same_package [] (y ∷ ys) = false
same_package (x ∷ xs) [] = false
same_package (x ∷ xs) (y ∷ ys) = bytes_eq x y && same_package xs ys

abbrev pub packages_of : List TUnit → List (List (List ℕ))
packages_of [] = []
packages_of (u ∷ more) = map (λ (c : TClass). u.package) u.classes ++ packages_of more

-- ---- with type arguments in the place of type parameters (JLS 4.5)

abbrev pub put_result : ClassRef → List TType → TResult → TResult
put_result c args result.Void = result.Void
put_result c args (result.Value x) = result.Value (put c args x)

abbrev pub put_method : ClassRef → List TType → Method → Method
put_method c args m = record { home = m.home; name = m.name; params = map (put c args) m.params; result = put_result c args m.result; access = m.access; is_static = m.is_static; at = m.at }

-- ---- what a class declares

abbrev pub own_method : ClassRef → TMethod → Method
own_method c m = record {
  home = c;
  name = m.name;
  params = param_types m.params;
  result = result_type m.result;
  access = m.modifiers.access;
  is_static = m.modifiers.is_static;
  at = Some m.at;
}

abbrev pub is_method_form : Form → Bool
is_method_form forms.Method = true
is_method_form forms.Property = true
is_method_form forms.Receiver = true
is_method_form _ = false

abbrev pub row_method : ℕ → Member → Method
row_method n row = record {
  home = class.Library n;
  name = row.java;
  params = map (λ (p : LibType). lib_type n p.kind) row.params;
  result = result.Value (lib_type n row.result.kind);
  access = access.Public;
  is_static = false;
  at = None;
}

abbrev pub rows_methods : ℕ → Option (List Member) → List Method
rows_methods n None = []
rows_methods n (Some rows) = map (row_method n) (filter (λ (row : Member). is_method_form row.form) rows)

abbrev pub class_methods : ClassRef → Option TClass → List Method
class_methods c None = []
class_methods c (Some x) = map (own_method c) x.methods

module _ (heads : Heads) (units : List TUnit) (classes : List TClass) where
  abbrev pub own_methods : ClassRef → List Method
  own_methods (class.Library n) = rows_methods n (slice_get members n)
  own_methods (class.Project n) = class_methods (class.Project n) (slice_get classes n)

  -- ---- what it inherits (JLS 8.4.8, 9.4.1)

  abbrev pub package_of : ClassRef → Option (List (List ℕ))
  package_of (class.Library n) = None
  package_of (class.Project n) = slice_get (packages_of units) n

  abbrev pub both_in : Option (List (List ℕ)) → Option (List (List ℕ)) → Bool
  both_in (Some p) (Some q) = same_package p q
  both_in _ _ = false

  abbrev pub in_one_package : ClassRef → ClassRef → Bool
  in_one_package c d = both_in (package_of c) (package_of d)

  abbrev pub is_face_by : Option TClass → Bool
  is_face_by None = false
  is_face_by (Some x) = is_interface_sort x.sort

  abbrev pub is_face : ClassRef → Bool
  is_face (class.Library n) = false
  is_face (class.Project n) = is_face_by (slice_get classes n)

  abbrev pub is_seen_by : Access → Bool → Bool
  is_seen_by access.Public near = true
  is_seen_by access.Protected near = true
  is_seen_by access.Package near = near
  is_seen_by access.Private near = false

  -- a class may inherit it from one above: it isn't private, not of another package alone, and no static method of an interface
  abbrev pub may_inherit : ClassRef → Method → Bool
  may_inherit c m = is_seen_by m.access (in_one_package c m.home) && not (m.is_static && is_face m.home)

  abbrev pub is_declared_in : List Method → Method → Bool
  is_declared_in own m = list_any (same_signature m) own

  abbrev pub from_super : (ClassRef → List Method) → TType-F TType → List Method
  from_super higher (TType-F.Class c args) = map (put_method c args) (higher c)
  from_super higher _ = []

  abbrev pub from_supers : (ClassRef → List Method) → List TType → List Method
  from_supers higher ss = flat_map (λ s. from_super higher (out-TType s)) ss

  -- the methods above it that it may inherit, also those that it declares again
  abbrev pub above_in : (ClassRef → List Method) → ClassRef → List Method
  above_in higher c = filter (may_inherit c) (from_supers higher (supers_in heads c))

  abbrev pub with_inherited : ClassRef → List Method → List Method
  with_inherited c higher = own_methods c ++ filter (λ m. not (is_declared_in (own_methods c) m)) higher

  -- all methods of a class, of which fewer than n stand above one another
  abbrev pub methods_in : ℕ → ClassRef → List Method
  methods_in zero c = []
  methods_in (suc n) c = with_inherited c (above_in (methods_in n) c)

  -- no walk up takes more steps
  abbrev pub methods_above : ClassRef → List Method
  methods_above c = above_in (methods_in heads.steps) c

  abbrev pub inherited : ClassRef → List Method
  inherited c = filter (λ m. not (is_declared_in (own_methods c) m)) (methods_above c)

  -- ---- all methods of the classes of the project above one, seen or not

  abbrev pub superclass_of : List TType → List TType
  superclass_of [] = []
  superclass_of (s ∷ more) = s ∷ []

  abbrev pub hidden_in : ℕ → ClassRef → List Method
  hidden_in zero c = []
  hidden_in (suc n) c = own_methods c ++ from_supers (hidden_in n) (superclass_of (supers_in heads c))

  abbrev pub of_superclasses : ClassRef → List Method
  of_superclasses c = from_supers (hidden_in heads.steps) (superclass_of (supers_in heads c))

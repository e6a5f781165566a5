-- Worked rows and laws: which two methods a call could confuse.
use Rattle.std.proofs.Common.{◌≡◌, ℕ, Bool, true, false, not, ◌&&◌, ◌||◌, List, [], ◌∷◌, Some, refl, ap}
use Rattle.j2k_base.specs.declared.constants.Kind.TheVariants as kind
use Rattle.java_typed.specs.declared.types.ClassRef.{ClassRef}
use Rattle.java_typed.specs.declared.types.ClassRef.TheVariants as class
use Rattle.java_typed.specs.declared.types.TType.{TType}
use Rattle.java_typed.specs.declared.types.TType.TheOpen.{TType-F}
use Rattle.java_typed.specs.declared.members.Access.TheVariants as access
use Rattle.java_typed.specs.declared.units.TClass.{TClass}
use Rattle.java_typed.specs.declared.units.TUnit.{TUnit}
use Rattle.java_tree.specs.declared.tokens.Position.{Position}
use Rattle.java_type_relations.specs.declared.heads.Heads.{Heads}
use Rattle.java_type_relations.specs.Subtypes.{is_subtype}
use Rattle.java_profile.specs.Faults.{fault, told, P12, P15}
use Rattle.java_profile_members.specs.Methods.{is_seen_by, in_one_package, same_signature, Method}
use Rattle.java_profile_members.specs.Members.{apart_by, are_close, is_own_sort, is_far, is_package_private, far_at}

module _ (heads : Heads) (a b : TType) where
  record Apart : Type 0 where
    -- int and long, int and boolean, int and String
    two_primitives : apart_by heads a b (TType-F.Number kind.Int) (TType-F.Number kind.Long) ≡ true
    number_and_truth : apart_by heads a b (TType-F.Number kind.Int) TType-F.Boolean ≡ true
    primitive_and_string : apart_by heads a b (TType-F.Number kind.Int) (TType-F.Class (class.Library 1) []) ≡ true
    string_and_primitive : apart_by heads a b (TType-F.Class (class.Library 1) []) TType-F.Boolean ≡ true
    -- int and int, int and Integer, int and a class of the project
    one_primitive : apart_by heads a b (TType-F.Number kind.Int) (TType-F.Number kind.Int) ≡ false
    primitive_and_box : apart_by heads a b (TType-F.Number kind.Int) (TType-F.Class (class.Library 3) []) ≡ false
    primitive_and_class : apart_by heads a b (TType-F.Number kind.Int) (TType-F.Class (class.Project 0) []) ≡ false
    -- Object, a box, an array and a type variable are apart from no class
    object : apart_by heads a b (TType-F.Class (class.Library 0) []) (TType-F.Class (class.Project 0) []) ≡ false
    box : apart_by heads a b (TType-F.Class (class.Project 0) []) (TType-F.Class (class.Library 4) []) ≡ false
    array : apart_by heads a b (TType-F.Array a) (TType-F.Class (class.Project 0) []) ≡ false
    variable : apart_by heads a b (TType-F.Variable (class.Project 0) 0) (TType-F.Class (class.Project 0) []) ≡ false

  apart : Apart
  apart = record {
    two_primitives = refl;
    number_and_truth = refl;
    primitive_and_string = refl;
    string_and_primitive = refl;
    one_primitive = refl;
    primitive_and_box = refl;
    primitive_and_class = refl;
    object = refl;
    box = refl;
    array = refl;
    variable = refl;
  }

  below_by : (o p s t : Bool) → s ≡ true → (o && p && not s && not t) ≡ false
  below_by true true true t h = refl
  below_by true false true t h = refl
  below_by false p true t h = refl
  below_by o p false t h = cc

  above_by : (o p s t : Bool) → t ≡ true → (o && p && not s && not t) ≡ false
  above_by true true true true h = refl
  above_by true true false true h = refl
  above_by true false s true h = refl
  above_by false p s true h = refl
  above_by o p s false h = cc

  -- A class is not apart from one below it, nor from one above it.
  class_above : (c d : ClassRef) (xs ys : List TType) → is_subtype heads a b ≡ true → apart_by heads a b (TType-F.Class c xs) (TType-F.Class d ys) ≡ false
  class_above c d xs ys h = below_by (is_own_sort heads c) (is_own_sort heads d) (is_subtype heads a b) (is_subtype heads b a) h

  class_below : (c d : ClassRef) (xs ys : List TType) → is_subtype heads b a ≡ true → apart_by heads a b (TType-F.Class c xs) (TType-F.Class d ys) ≡ false
  class_below c d xs ys h = above_by (is_own_sort heads c) (is_own_sort heads d) (is_subtype heads a b) (is_subtype heads b a) h

  -- methods without parameters have one signature, and those with other numbers of parameters aren't close
  record Numbers : Type 0 where
    none : are_close heads [] [] ≡ false
    one_and_two : are_close heads (a ∷ []) (a ∷ b ∷ []) ≡ false

  numbers : Numbers
  numbers = record { none = refl; one_and_two = refl }

module _ (heads : Heads) (units : List TUnit) (classes : List TClass) where
  -- who inherits: a package-private method within its package alone, a private one never
  record Inherits : Type 0 where
    near : is_seen_by heads units classes access.Package true ≡ true
    far : is_seen_by heads units classes access.Package false ≡ false
    hidden : is_seen_by heads units classes access.Private true ≡ false
    shown : is_seen_by heads units classes access.Protected false ≡ true

  inherits : Inherits
  inherits = record { near = refl; far = refl; hidden = refl; shown = refl }

  told_far : (b : Bool) (at : Position) → b ≡ true → far_at heads units classes b (Some at) ≡ fault P12 at ∷ []
  told_far true at h = refl
  told_far false at h = cc

  far_so : (own near alike : Bool) → own ≡ true → near ≡ false → alike ≡ true → (own && not near && alike) ≡ true
  far_so true false true p q r = refl
  far_so false near alike p q r = cc
  far_so true true alike p q r = cc
  far_so true false false p q r = cc

  -- a package-private method of another package's class above is declared again
  declared_again : (number : ℕ) (m n : Method) → n.access ≡ access.Package → in_one_package heads units classes (class.Project number) n.home ≡ false → same_signature m n ≡ true → is_far heads units classes number m n ≡ true
  declared_again number m n p q r = far_so (is_package_private n.access) (in_one_package heads units classes (class.Project number) n.home) (same_signature m n) (ap is_package_private p) q r

  -- a field that a class above shows, and one that it hides
  own_field : (b message : Bool) (at : Position) → b ≡ true → told (b || message) P15 at ≡ fault P15 at ∷ []
  own_field true message at h = refl
  own_field false message at h = cc

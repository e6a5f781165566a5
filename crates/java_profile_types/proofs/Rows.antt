-- Worked rows: small types and calls, just inside of the rules and just outside.
use Rattle.std.proofs.Common.{◌≡◌, ℕ, Bool, true, false, not, List, [], ◌∷◌, ◌++◌, codes, Some, refl}
use Rattle.java_tree.specs.declared.tokens.Position.{Position}
use Rattle.java_typed.specs.declared.types.ClassRef.TheVariants as class
use Rattle.java_typed.specs.declared.types.TType.{TType}
use Rattle.java_typed.specs.declared.types.TType.TheOpen.{TType-F}
use Rattle.java_typed.specs.declared.types.TResult.TheVariants as result
use Rattle.java_typed.specs.declared.exprs.TExpr.TheOpen.{TExpr-F}
use Rattle.java_walks.specs.Parts.{Node}
use Rattle.java_profile.specs.Faults.{Fault, fault, told, P2, P4, P8, P13}
use Rattle.java_profile_types.specs.Written.{Named, may_be_above, named_by, mentions_faults}
use Rattle.java_profile_types.specs.Calls.{has_own, has_text, may_call, may_compare, prints, call_faults, text_faults}
use Rattle.java_profile_types.specs.Calls as calls
use Rattle.java_profile_types.specs.Arrays.{differ, differ_by, goes, is_bad_cast_by}

abbrev at : ℕ → Position
at n = record { offset = n; line = 1; column = n }

-- ---- supertypes: Object, Runnable and the throwables, and no other class of the library

record Supers : Type 0 where
  object : may_be_above (class.Library 0) ≡ true
  string : may_be_above (class.Library 1) ≡ false
  list : may_be_above (class.Library 12) ≡ false
  runnable : may_be_above (class.Library 14) ≡ true
  thread : may_be_above (class.Library 15) ≡ false
  throwable : may_be_above (class.Library 17) ≡ true
  io_exception : may_be_above (class.Library 22) ≡ true
  no_class_def_found : may_be_above (class.Library 36) ≡ true

supers : Supers
supers = record { object = refl; string = refl; list = refl; runnable = refl; thread = refl; throwable = refl; io_exception = refl; no_class_def_found = refl }

-- ---- raw types, and keys of maps

abbrev plain : ℕ → List Named → Named
plain n arguments = named_by [] (TType-F.Class (class.Library n) arguments)

abbrev integer : Named
integer = plain 3 []

abbrev object : Named
object = plain 0 []

-- `Map<k, v>`
abbrev map_of : Named → Named → Named
map_of k v = plain 13 (k ∷ v ∷ [])

record Keys : Type 0 where
  a_box : mentions_faults [] (map_of integer object).mentions (at 1 ∷ at 2 ∷ at 3 ∷ []) ≡ []
  an_object : mentions_faults [] (map_of object integer).mentions (at 1 ∷ at 2 ∷ at 3 ∷ []) ≡ fault P13 (at 2) ∷ []
  -- `HashMap<Object, Integer>`
  of_hash_map : mentions_faults [] (plain 11 (object ∷ integer ∷ [])).mentions (at 1 ∷ at 2 ∷ at 3 ∷ []) ≡ fault P13 (at 2) ∷ []
  -- `List<Map<int[], Integer>>`
  in_a_list : mentions_faults [] (plain 12 (map_of (named_by [] (TType-F.Array integer)) integer ∷ [])).mentions (at 1 ∷ at 2 ∷ at 3 ∷ at 4 ∷ at 5 ∷ []) ≡ fault P13 (at 3) ∷ []
  -- `Map`, and `List<Map>[]`
  raw : mentions_faults [] (plain 13 []).mentions (at 1 ∷ []) ≡ fault P2 (at 1) ∷ []
  raw_within : mentions_faults [] (named_by [] (TType-F.Array (plain 12 (plain 13 [] ∷ [])))).mentions (at 1 ∷ at 2 ∷ at 3 ∷ []) ≡ fault P2 (at 3) ∷ []
  not_raw : mentions_faults [] (plain 12 (integer ∷ [])).mentions (at 1 ∷ at 2 ∷ []) ≡ []

keys : Keys
keys = record { a_box = refl; an_object = refl; of_hash_map = refl; in_a_list = refl; raw = refl; raw_within = refl; not_raw = refl }

-- ---- texts, and what may be asked

record Texts : Type 0 where
  string : has_own [] (codes "toString") (class.Library 1) ≡ true
  box : has_own [] (codes "hashCode") (class.Library 8) ≡ true
  object_has_none : has_own [] (codes "toString") (class.Library 0) ≡ false
  builder_as_an_operand : has_own [] (codes "toString") (class.Library 2) ≡ false
  builder_by_a_call : may_call [] (codes "toString") (Some (class.Library 2)) ≡ true
  builder_has_no_hash_code : may_call [] (codes "hashCode") (Some (class.Library 2)) ≡ false
  compared_box : may_compare [] (Some (class.Library 3)) ≡ true
  compared_object : may_compare [] (Some (class.Library 0)) ≡ false
  compared_builder : may_compare [] (Some (class.Library 2)) ≡ false
  -- `println(Object)`, `println(String)`, `append(Object)`
  printed_object : prints (record { class = class.Library 16; place = 11 }) ≡ true
  printed_string : prints (record { class = class.Library 16; place = 10 }) ≡ false
  appended_object : prints (record { class = class.Library 2; place = 7 }) ≡ true

texts : Texts
texts = record {
  string = refl;
  box = refl;
  object_has_none = refl;
  builder_as_an_operand = refl;
  builder_by_a_call = refl;
  builder_has_no_hash_code = refl;
  compared_box = refl;
  compared_object = refl;
  compared_builder = refl;
  printed_object = refl;
  printed_string = refl;
  appended_object = refl;
}

told_so : (b : Bool) (r : Position) (more : List Fault) → b ≡ false → told (not b) P8 r ++ more ≡ fault P8 r ∷ more
told_so false r more h = refl
told_so true r more h = cc

-- an operand of `+` without a text of its own, on the left
concat_told : (x y : Node) (p : Position) → has_text [] x.kind ≡ false → calls.node_faults [] (TExpr-F.Concat x p y) ≡ fault P8 x.first ∷ text_faults [] y
concat_told x y p h = told_so (has_text [] x.kind) x.first (text_faults [] y) h

-- ---- arrays

goes_so : (b : Bool) (r : Position) → b ≡ true → told b P4 r ≡ fault P4 r ∷ []
goes_so true r h = refl
goes_so false r h = cc

-- an array of another component type is told where it stands
other_array : (a to : TType) (r : Position) → differ a to ≡ true → goes to (record { kind = result.Value a; first = r }) ≡ fault P4 r ∷ []
other_array a to r h = goes_so (differ a to) r h

record Arrays (x y : TType) : Type 0 where
  -- an array goes to Object
  to_object : differ_by (TType-F.Array x) (TType-F.Class (class.Library 0) []) ≡ false
  -- a cast from array to array, also to the same, and none from Object to another type
  between : is_bad_cast_by (TType-F.Array x) true ≡ true
  to_a_class : is_bad_cast_by (TType-F.Class (class.Library 1) []) true ≡ false

arrays : (x y : TType) → Arrays x y
arrays x y = record { to_object = refl; between = refl; to_a_class = refl }

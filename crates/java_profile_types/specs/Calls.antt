-- The rules on texts, hash codes and `equals` (own rules: Object's own text and hash code name where an object lies, and the library's
-- are other texts in Kotlin; of other receivers `equals` is the library's or unknown).
use Rattle.std.specs.Prelude.{ℕ, Bool, true, false, not, ◌&&◌, ◌||◌, ◌==◌, bytes_eq, codes, List, [], ◌∷◌, ◌++◌, length, Option, Some, None, slice_get}
use Rattle.std.specs.List.{flat_map}
use Rattle.java_tree.specs.declared.tokens.Position.{Position}
use Rattle.java_lib.specs.declared.rows.LibKind.{LibKind}
use Rattle.java_lib.specs.declared.rows.LibKind.TheVariants.{Object}
use Rattle.java_lib.specs.declared.rows.LibType.{LibType}
use Rattle.java_lib.specs.Library.{Member, members}
use Rattle.java_lib.specs.Library as lib
use Rattle.java_typed.specs.declared.types.ClassRef.{ClassRef}
use Rattle.java_typed.specs.declared.types.ClassRef.TheVariants as class
use Rattle.java_typed.specs.declared.types.TType.{TType, out-TType}
use Rattle.java_typed.specs.declared.types.TType.TheOpen.{TType-F}
use Rattle.java_typed.specs.declared.types.TResult.{TResult}
use Rattle.java_typed.specs.declared.types.TResult.TheVariants as result
use Rattle.java_typed.specs.declared.members.MemberRef.{MemberRef}
use Rattle.java_typed.specs.declared.exprs.TExpr.{TExpr}
use Rattle.java_typed.specs.declared.exprs.TExpr.TheOpen.{TExpr-F}
use Rattle.java_typed.specs.declared.units.TMethod.{TMethod}
use Rattle.java_typed.specs.declared.units.TClass.{TClass}
use Rattle.java_facts.specs.Kinds.{class_sort, row_at}
use Rattle.java_facts.specs.Project.{above_of}
use Rattle.java_walks.specs.Parts.{Node, node_by, collected}
use Rattle.java_profile.specs.Faults.{Fault, P8, P13, told}
use Rattle.java_profile.specs.Statements.{is_text_or_box}
use Rattle.java_profile.specs.Above.{class_at, anywhere, most, declares, is_class_by}

-- ---- members by their names

pub record Called : Type 0 where
  pub name : List ℕ
  pub params : ℕ

abbrev pub called_row : Option Member → Option Called
called_row None = None
called_row (Some row) = Some (record { name = row.java; params = length row.params })

abbrev pub called_method : Option TMethod → Option Called
called_method None = None
called_method (Some x) = Some (record { name = x.name; params = length x.params })

abbrev pub called_in : Option TClass → ℕ → Option Called
called_in None place = None
called_in (Some c) place = called_method (slice_get c.methods place)

abbrev pub is_named : List ℕ → ℕ → Option Called → Bool
is_named name params None = false
is_named name params (Some x) = bytes_eq name x.name && (params == x.params)

-- what prints or appends an Object makes its text
abbrev pub takes_object : List LibType → Bool
takes_object ps = by_kinds ps
  where
    is_object_kind : LibKind → Bool
    is_object_kind (Object n) = n == lib.object_class
    is_object_kind _ = false

    by_kinds : List LibType → Bool
    by_kinds (p ∷ []) = is_object_kind p.kind
    by_kinds _ = false

abbrev pub is_printing : List ℕ → Bool
is_printing name = bytes_eq name (codes "out.print") || bytes_eq name (codes "out.println") || bytes_eq name (codes "append")

abbrev pub prints_row : Option Member → Bool
prints_row None = false
prints_row (Some row) = is_printing row.java && takes_object row.params

abbrev pub prints : MemberRef → Bool
prints m = by m.class
  where
    by : ClassRef → Bool
    by (class.Library n) = prints_row (row_at (slice_get members n) m.place)
    by (class.Project n) = false

-- ---- classes with a method of their own

abbrev pub class_by : TType-F TType → Option ClassRef
class_by (TType-F.Class c arguments) = Some c
class_by _ = None

abbrev pub class_of : TResult → Option ClassRef
class_of result.Void = None
class_of (result.Value t) = class_by (out-TType t)

module _ (classes : List TClass) where
  abbrev pub called : MemberRef → Option Called
  called m = by m.class
    where
      by : ClassRef → Option Called
      by (class.Library n) = called_row (row_at (slice_get members n) m.place)
      by (class.Project n) = called_in (slice_get classes n) m.place

  -- Strings and boxes have all three methods; a class of the project where it or one above it declares the method
  abbrev pub has_own : List ℕ → ClassRef → Bool
  has_own name (class.Library n) = is_text_or_box (class_sort (class.Library n))
  has_own name (class.Project n) = is_class_by (slice_get classes n) && anywhere classes (declares name 0) (most classes) (Some (class.Project n))

  -- a primitive value and `null` have a text
  abbrev pub has_text_by : TType-F TType → Bool
  has_text_by (TType-F.Number kind) = true
  has_text_by TType-F.Boolean = true
  has_text_by TType-F.Null = true
  has_text_by (TType-F.Class c arguments) = has_own (codes "toString") c
  has_text_by (TType-F.Variable c place) = false
  has_text_by (TType-F.Array element) = false

  abbrev pub has_text : TResult → Bool
  has_text result.Void = false
  has_text (result.Value t) = has_text_by (out-TType t)

  abbrev pub may_call : List ℕ → Option ClassRef → Bool
  may_call name None = false
  may_call name (Some c) = has_own name c || is_builder c && bytes_eq name (codes "toString")
    where
      is_builder : ClassRef → Bool
      is_builder (class.Library n) = n == lib.string_builder_class
      is_builder (class.Project n) = false

  -- what `equals` may be asked of: a String, a box, or an object of a class of the project
  abbrev pub may_compare : Option ClassRef → Bool
  may_compare None = false
  may_compare (Some (class.Library n)) = is_text_or_box (class_sort (class.Library n))
  may_compare (Some (class.Project n)) = is_class_by (slice_get classes n)

  abbrev pub above_class : Option TClass → Option ClassRef
  above_class None = None
  above_class (Some x) = above_of x.above

  abbrev pub next_above : Option ClassRef → Option ClassRef
  next_above None = None
  next_above (Some c) = above_class (class_at classes c)

  -- `super` is of the class above that of `this` (JLS 15.11.2)
  abbrev pub receiver : Bool → TResult → Option ClassRef
  receiver false kind = class_of kind
  receiver true kind = next_above (class_of kind)

  -- ---- the faults of a node

  abbrev pub text_faults : Node → List Fault
  text_faults x = told (not (has_text x.kind)) P8 x.first

  abbrev pub printed_faults : Bool → List Node → List Fault
  printed_faults true arguments = flat_map text_faults arguments
  printed_faults false arguments = []

  abbrev pub call_faults : Option Called → Option ClassRef → Position → List Fault
  call_faults m object first =
      told (is_named (codes "toString") 0 m && not (may_call (codes "toString") object)) P8 first
      ++ (told (is_named (codes "hashCode") 0 m && not (may_call (codes "hashCode") object)) P8 first
      ++ told (is_named (codes "equals") 1 m && not (may_compare object)) P13 first)

  abbrev pub node_faults : TExpr-F Node → List Fault
  node_faults (TExpr-F.Concat left at right) = text_faults left ++ text_faults right
  node_faults (TExpr-F.Append target at v) = text_faults target ++ text_faults v
  node_faults (TExpr-F.StaticCall start m at arguments r) = printed_faults (prints m) arguments
  node_faults (TExpr-F.VirtualCall object m at arguments r) = call_faults (called m) (receiver false object.kind) object.first ++ printed_faults (prints m) arguments
  node_faults (TExpr-F.ExactCall object is_super m at arguments r) = call_faults (called m) (receiver is_super object.kind) object.first
  node_faults _ = []

  -- of an expression and of all in it
  abbrev pub value_faults : TExpr → List Fault
  value_faults x = (collected node_by node_faults x).told

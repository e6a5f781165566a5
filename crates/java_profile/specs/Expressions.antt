-- The rules that an expression breaks.
use Rattle.std.specs.Prelude.{Bool, true, false, not, ◌&&◌, ◌||◌, ◌==◌, List, [], ◌∷◌, ◌++◌}
use Rattle.std.specs.List.{filter}
use Rattle.java_tree.specs.declared.tokens.Position.{Position}
use Rattle.java_typed.specs.declared.types.ClassRef.{ClassRef}
use Rattle.java_typed.specs.declared.types.ClassRef.TheVariants as class
use Rattle.java_typed.specs.declared.types.TType.{TType, out-TType, fold-TType}
use Rattle.java_typed.specs.declared.types.TType.TheOpen.{TType-F}
use Rattle.java_typed.specs.declared.types.TResult.{TResult}
use Rattle.java_typed.specs.declared.types.TResult.TheVariants as result
use Rattle.java_typed.specs.declared.members.MemberRef.{MemberRef}
use Rattle.java_typed.specs.declared.exprs.Conversion.{Conversion}
use Rattle.java_typed.specs.declared.exprs.Conversion.TheVariants as to
use Rattle.java_typed.specs.declared.exprs.TExpr.{TExpr, fold-TExpr, map-TExpr}
use Rattle.java_typed.specs.declared.exprs.TExpr.TheOpen.{TExpr-F}
use Rattle.java_typed.specs.Reading.{first_by, type_by}
use Rattle.java_facts.specs.Kinds.{Sort, Boxed, Text, class_sort}
use Rattle.java_profile.specs.Faults.{Rule, Fault, P3, P5, P7, P9, told}

-- Of an expression: its type, its first token, whether it is the literal null, also in parentheses, whether a box is opened where it
-- stands, and its faults.
pub record Judged : Type 0 where
  pub kind : TResult
  pub first : Position
  pub is_null : Bool
  pub is_opened : Bool
  pub faults : List Fault

abbrev pub all_faults : List Judged → List Fault
all_faults [] = []
all_faults (x ∷ more) = x.faults ++ all_faults more

-- ---- types

-- a type variable, or a class with type arguments
abbrev pub is_open_by : TType-F TType → Bool
is_open_by (TType-F.Variable c place) = true
is_open_by (TType-F.Class c []) = false
is_open_by (TType-F.Class c (a ∷ more)) = true
is_open_by _ = false

abbrev pub is_open : TType → Bool
is_open t = is_open_by (out-TType t)

-- such a type, or an array of it, of any depth
abbrev pub holds_open_by : TType-F Bool → Bool
holds_open_by (TType-F.Array element) = element
holds_open_by (TType-F.Variable c place) = true
holds_open_by (TType-F.Class c []) = false
holds_open_by (TType-F.Class c (a ∷ more)) = true
holds_open_by _ = false

abbrev pub holds_open : TType → Bool
holds_open t = fold-TType Bool holds_open_by t

-- a String, a box, Object, or of a type variable: what it is has no identity
abbrev pub is_valued_class : ClassRef → Bool
is_valued_class (class.Library n) = n == 0 || by (class_sort (class.Library n))
  where
    by : Sort → Bool
    by Boxed = true
    by Text = true
    by _ = false
is_valued_class (class.Project n) = false

abbrev pub is_valued_by : TType-F TType → Bool
is_valued_by (TType-F.Class c arguments) = is_valued_class c
is_valued_by (TType-F.Variable c place) = true
is_valued_by _ = false

abbrev pub is_valued : TResult → Bool
is_valued result.Void = false
is_valued (result.Value t) = is_valued_by (out-TType t)

-- ---- conversions

abbrev pub opens : Conversion → Bool → Bool
opens (to.Number from kind) opened = opened
opens (to.Box kind) opened = false
opens (to.Unbox kind) opened = true
opens to.BoxBoolean opened = false
opens to.UnboxBoolean opened = true

abbrev pub differ : Bool → Bool → Bool
differ true b = not b
differ false b = b

-- a constant expression names members by simple names or behind a class's name (JLS 15.28)
abbrev pub is_no_access : Fault → Bool
is_no_access x = by x.rule
  where
    by : Rule → Bool
    by P7 = false
    by _ = true

-- by which fields are constant variables
module _ (is_constant_field : MemberRef → Bool) where
  abbrev pub faults_by : TExpr-F Judged → Position → List Fault
  faults_by (TExpr-F.Literal v at) first = []
  faults_by (TExpr-F.Null at) first = []
  faults_by (TExpr-F.Constant v inner) first = filter is_no_access inner.faults
  faults_by (TExpr-F.This at is_written kind) first = []
  faults_by (TExpr-F.Paren at inner) first = inner.faults
  faults_by (TExpr-F.Local name at kind) first = []
  faults_by (TExpr-F.Static start m at kind) first = []
  faults_by (TExpr-F.Field object m at kind) first = told (is_constant_field m) P7 first ++ object.faults
  faults_by (TExpr-F.Length array at) first = array.faults
  faults_by (TExpr-F.Element array index kind) first = array.faults ++ index.faults
  faults_by (TExpr-F.StaticCall start m at arguments r) first = all_faults arguments
  faults_by (TExpr-F.VirtualCall object m at arguments r) first = object.faults ++ all_faults arguments
  faults_by (TExpr-F.ExactCall object is_super m at arguments r) first = object.faults ++ all_faults arguments
  faults_by (TExpr-F.Through object m) first = told true P7 first ++ (object.faults ++ m.faults)
  faults_by (TExpr-F.Step is_prefix o at target kind) first = target.faults
  faults_by (TExpr-F.Unary o at inner) first = inner.faults
  faults_by (TExpr-F.Binary left o at right) first = left.faults ++ right.faults
  faults_by (TExpr-F.Concat left at right) first = left.faults ++ right.faults
  faults_by (TExpr-F.Same left is_equal at right) first = told (not (left.is_null || right.is_null) && (is_valued left.kind || is_valued right.kind)) P5 at ++ (left.faults ++ right.faults)
  faults_by (TExpr-F.Instanceof inner at kind) first = told (is_open kind.kind) P3 first ++ inner.faults
  faults_by (TExpr-F.Cast at kind inner) first = told (is_open kind.kind) P3 first ++ inner.faults
  faults_by (TExpr-F.Convert c inner) first = inner.faults
  faults_by (TExpr-F.Conditional test one other kind) first = told (differ one.is_opened other.is_opened) P9 first ++ (test.faults ++ (one.faults ++ other.faults))
  faults_by (TExpr-F.Assign target at v) first = target.faults ++ v.faults
  faults_by (TExpr-F.Compound target o kind at v) first = target.faults ++ v.faults
  faults_by (TExpr-F.Append target at v) first = target.faults ++ v.faults
  faults_by (TExpr-F.Lambda l inner) first = inner.faults
  faults_by (TExpr-F.LambdaBlock l number) first = []
  faults_by (TExpr-F.New at kind m arguments body) first = all_faults arguments
  faults_by (TExpr-F.NewArray at kind size) first = told (holds_open kind.kind) P3 first ++ size.faults
  faults_by (TExpr-F.NewFilled at kind elements) first = told (holds_open kind.kind) P3 first ++ all_faults elements

  abbrev pub is_null_by : TExpr-F Judged → Bool
  is_null_by (TExpr-F.Null at) = true
  is_null_by (TExpr-F.Paren at inner) = inner.is_null
  is_null_by _ = false

  abbrev pub is_opened_by : TExpr-F Judged → Bool
  is_opened_by (TExpr-F.Convert c inner) = opens c inner.is_opened
  is_opened_by _ = false

  abbrev pub first_of : TExpr-F Judged → Position
  first_of x = first_by (map-TExpr Judged Position (λ j. j.first) x)

  abbrev pub judged_by : TExpr-F Judged → Judged
  judged_by x = record { kind = type_by (map-TExpr Judged TResult (λ j. j.kind) x); first = first_of x; is_null = is_null_by x; is_opened = is_opened_by x; faults = faults_by x (first_of x) }

  unfoldable pub judged : TExpr → Judged
  judged = fold-TExpr Judged judged_by

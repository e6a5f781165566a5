-- The rule on arrays: Kotlin's are of one component type alone (Kotlin specification, built-in types, invariance), so that no array stands
-- where one of another component type is expected (JLS 4.10.3), and no cast goes to one.
use Rattle.std.specs.Prelude.{ℕ, Bool, true, false, not, ◌||◌, ◌==◌, List, [], ◌∷◌, ◌++◌, map, Option, Some, None, slice_get, if◌then◌else◌}
use Rattle.std.specs.List.{flat_map}
use Rattle.j2k_base.specs.declared.constants.Kind.TheVariants as kind
use Rattle.java_lib.specs.declared.rows.LibKind.{LibKind}
use Rattle.java_lib.specs.declared.rows.LibKind.TheVariants.{Void, Boolean, Number, Object, Variable, Chars}
use Rattle.java_lib.specs.declared.rows.LibType.{LibType}
use Rattle.java_lib.specs.Library.{Member, members}
use Rattle.java_typed.specs.declared.types.ClassRef.{ClassRef}
use Rattle.java_typed.specs.declared.types.ClassRef.TheVariants as class
use Rattle.java_typed.specs.declared.types.TType.{TType, out-TType}
use Rattle.java_typed.specs.declared.types.TType.TheOpen.{TType-F}
use Rattle.java_typed.specs.declared.types.TType.TheVariants as t
use Rattle.java_typed.specs.declared.types.TResult.{TResult}
use Rattle.java_typed.specs.declared.types.TResult.TheVariants as result
use Rattle.java_typed.specs.declared.types.TWritten.{TWritten}
use Rattle.java_typed.specs.declared.members.MemberRef.{MemberRef}
use Rattle.java_typed.specs.declared.exprs.TLambda.{TLambda}
use Rattle.java_typed.specs.declared.exprs.TExpr.{TExpr}
use Rattle.java_typed.specs.declared.exprs.TExpr.TheOpen.{TExpr-F}
use Rattle.java_typed.specs.declared.units.TParam.{TParam}
use Rattle.java_typed.specs.declared.units.TMethod.{TMethod}
use Rattle.java_typed.specs.declared.units.TConstructor.{TConstructor}
use Rattle.java_typed.specs.declared.units.TClass.{TClass}
use Rattle.java_type_relations.specs.declared.heads.Heads.{Heads}
use Rattle.java_type_relations.specs.declared.supers.Sought.TheVariants as sought
use Rattle.java_type_relations.specs.Types.{put, same}
use Rattle.java_type_relations.specs.Supers.{supertype}
use Rattle.java_facts.specs.Kinds.{row_at}
use Rattle.java_walks.specs.Parts.{Node, node_by, collected}
use Rattle.java_profile.specs.Faults.{Fault, P4, told}

-- ---- two arrays

abbrev pub differ_by : TType-F TType → TType-F TType → Bool
differ_by (TType-F.Array x) (TType-F.Array y) = not (same x y)
differ_by _ _ = false

-- both are arrays, and of different component types
abbrev pub differ : TType → TType → Bool
differ a b = differ_by (out-TType a) (out-TType b)

abbrev pub differs_result : TResult → TType → Bool
differs_result result.Void b = false
differs_result (result.Value a) b = differ a b

-- a value goes to a place of a type
abbrev pub goes : TType → Node → List Fault
goes to x = told (differs_result x.kind to) P4 x.first

abbrev pub goes_result : TResult → Node → List Fault
goes_result result.Void x = []
goes_result (result.Value to) x = goes to x

-- arguments to parameters
abbrev pub all_go : List TType → List Node → List Fault
all_go [] xs = []
all_go (p ∷ ps) [] = []
all_go (p ∷ ps) (x ∷ xs) = goes p x ++ all_go ps xs

-- ---- casts

abbrev pub is_array_by : TType-F TType → Bool
is_array_by (TType-F.Array element) = true
is_array_by _ = false

abbrev pub is_array : TResult → Bool
is_array result.Void = false
is_array (result.Value a) = is_array_by (out-TType a)

abbrev pub is_primitive_by : TType-F TType → Bool
is_primitive_by (TType-F.Number k) = true
is_primitive_by TType-F.Boolean = true
is_primitive_by _ = false

-- between arrays, or to an array of references
abbrev pub is_bad_cast_by : TType-F TType → Bool → Bool
is_bad_cast_by (TType-F.Array element) from_array = from_array || not (is_primitive_by (out-TType element))
is_bad_cast_by _ from_array = false

abbrev pub is_bad_cast : TType → TResult → Bool
is_bad_cast to from = is_bad_cast_by (out-TType to) (is_array from)

-- ---- the types of parameters, as an object of a type has them (JLS 4.5, 15.12)

abbrev pub lib_type : ℕ → LibKind → TType
lib_type n Void = t.Null
lib_type n Boolean = t.Boolean
lib_type n (Number k) = t.Number k
lib_type n (Object m) = t.Class (class.Library m) []
lib_type n (Variable place) = t.Variable (class.Library n) place
lib_type n Chars = t.Array (t.Number kind.Char)

abbrev pub row_params : ℕ → Option Member → List TType
row_params n None = []
row_params n (Some row) = map (λ (p : LibType). lib_type n p.kind) row.params

abbrev pub param_types : List TParam → List TType
param_types ps = map (λ p. p.kind.kind) ps

abbrev pub method_params : Option TMethod → List TType
method_params None = []
method_params (Some x) = param_types x.params

abbrev pub constructor_params : Option TConstructor → List TType
constructor_params None = []
constructor_params (Some k) = param_types k.params

abbrev pub result_type : Option TWritten → TResult
result_type None = result.Void
result_type (Some w) = result.Value w.kind

abbrev pub method_result : Option TMethod → TResult
method_result None = result.Void
method_result (Some x) = result_type x.result

module _ (heads : Heads) (classes : List TClass) where
  abbrev pub params_in : Option TClass → ℕ → List TType
  params_in None place = []
  params_in (Some c) place = method_params (slice_get c.methods place)

  abbrev pub constructed_in : Option TClass → ℕ → List TType
  constructed_in None place = []
  constructed_in (Some c) place = constructor_params (slice_get c.constructors place)

  abbrev pub result_in : Option TClass → ℕ → TResult
  result_in None place = result.Void
  result_in (Some c) place = method_result (slice_get c.methods place)

  -- as they are declared
  abbrev pub declared_params : MemberRef → List TType
  declared_params m = by m.class
    where
      by : ClassRef → List TType
      by (class.Library n) = row_params n (row_at (slice_get members n) m.place)
      by (class.Project n) = params_in (slice_get classes n) m.place

  abbrev pub declared_constructor : MemberRef → List TType
  declared_constructor m = by m.class
    where
      by : ClassRef → List TType
      by (class.Library n) = row_params n (row_at (slice_get members n) m.place)
      by (class.Project n) = constructed_in (slice_get classes n) m.place

  abbrev pub declared_result : MemberRef → TResult
  declared_result m = by m.class
    where
      by : ClassRef → TResult
      by (class.Library n) = result.Void
      by (class.Project n) = result_in (slice_get classes n) m.place

  abbrev pub put_by : TType-F TType → TType → TType
  put_by (TType-F.Class c arguments) x = put c arguments x
  put_by _ x = x

  abbrev pub put_found : Option TType → TType → TType
  put_found None x = x
  put_found (Some s) x = put_by (out-TType s) x

  -- with the type arguments that the object's type gives to the class of the member
  abbrev pub seen_from : TType → ClassRef → TType → TType
  seen_from object c x = put_found (supertype heads (sought.Class c) object) x

  abbrev pub seen_from_result : TResult → ClassRef → TType → TType
  seen_from_result result.Void c x = x
  seen_from_result (result.Value object) c x = seen_from object c x

  abbrev pub put_result : TType → ClassRef → TResult → TResult
  put_result object c result.Void = result.Void
  put_result object c (result.Value x) = result.Value (seen_from object c x)

  -- what a lambda's body gives (JLS 15.27.3)
  abbrev pub lambda_result : TLambda → TResult
  lambda_result l = put_result l.face l.method.class (declared_result l.method)

  -- ---- the faults of a node

  abbrev pub node_faults : TExpr-F Node → List Fault
  node_faults (TExpr-F.Cast at kind inner) = told (is_bad_cast kind.kind inner.kind) P4 at
  node_faults (TExpr-F.Assign target at v) = goes_result target.kind v
  node_faults (TExpr-F.Conditional test one other kind) = goes kind one ++ goes kind other
  node_faults (TExpr-F.StaticCall start m at arguments r) = all_go (declared_params m) arguments
  node_faults (TExpr-F.VirtualCall object m at arguments r) = all_go (map (seen_from_result object.kind m.class) (declared_params m)) arguments
  node_faults (TExpr-F.ExactCall object is_super m at arguments r) = all_go (map (seen_from_result object.kind m.class) (declared_params m)) arguments
  node_faults (TExpr-F.Lambda l inner) = goes_result (lambda_result l) inner
  node_faults (TExpr-F.New at kind m arguments body) = all_go (map (seen_from kind.kind m.class) (declared_constructor m)) arguments
  node_faults (TExpr-F.NewFilled at kind elements) = filled (out-TType kind.kind) elements
    where
      filled : TType-F TType → List Node → List Fault
      filled (TType-F.Array element) xs = flat_map (goes element) xs
      filled _ xs = []
  node_faults _ = []

  -- of an expression and of all in it
  abbrev pub value_faults : TExpr → List Fault
  value_faults x = (collected node_by node_faults x).told

  -- ---- the blocks of lambdas, by their numbers, with what they give

  abbrev pub blocks_by : TExpr-F Bool → List (ℕ × TResult)
  blocks_by (TExpr-F.LambdaBlock l number) = (number, lambda_result l) ∷ []
  blocks_by _ = []

  abbrev pub blocks_of : TExpr → List (ℕ × TResult)
  blocks_of x = (collected (λ y. true) blocks_by x).told

  abbrev pub found_block : ℕ → List (ℕ × TResult) → TResult
  found_block n [] = result.Void
  found_block n (b ∷ more) = if n == b.0 then b.1 else found_block n more

-- Subtyping (JLS 4.10).
use Rattle.std.specs.Prelude.{Bool, true, false, ◌&&◌, ◌||◌, if◌then◌else◌, Option, Some, None, is_some}
use Rattle.java_lib.specs.Library.{object_class}
use Rattle.java_typed.specs.declared.types.ClassRef.{ClassRef}
use Rattle.java_typed.specs.declared.types.ClassRef.TheVariants as class
use Rattle.java_typed.specs.declared.types.TType.{TType, fold-TType, out-TType}
use Rattle.java_typed.specs.declared.types.TType.TheOpen.{TType-F}
use Rattle.java_type_relations.specs.declared.heads.Heads.{Heads}
use Rattle.java_type_relations.specs.declared.supers.Sought.{Sought}
use Rattle.java_type_relations.specs.declared.supers.Sought.TheVariants as sought
use Rattle.java_type_relations.specs.Types.{same, same_class, same_kind}
use Rattle.java_type_relations.specs.Kinds.{simple_of, widens}
use Rattle.java_type_relations.specs.Supers.{supertype}

-- ---- what two types are within the arrays that both of them are

pub record Parts : Type 0 where
  pub deep : Bool
  pub a : TType
  pub b : TType

abbrev pub within : (TType → TType → Parts) → TType-F TType → TType-F TType → TType → TType → Parts
within f (TType-F.Array x) (TType-F.Array y) a b = f x y
within f x y a b = record { deep = true; a = a; b = b }

-- (the step of the fold is given the type itself too)
abbrev pub components_by : TType-F (TType → TType → Parts) → TType → TType → Parts
components_by (TType-F.Array f) a b = within f (out-TType a) (out-TType b) a b
components_by x a b = record { deep = true; a = a; b = b }

-- of two components
unfoldable pub components : TType → TType → Parts
components a b = fold-TType (TType → TType → Parts) components_by a a b

abbrev pub apart_forms : TType-F TType → TType-F TType → TType → TType → Parts
apart_forms (TType-F.Array x) (TType-F.Array y) a b = components x y
apart_forms x y a b = record { deep = false; a = a; b = b }

abbrev pub apart : TType → TType → Parts
apart a b = apart_forms (out-TType a) (out-TType b) a b

-- ---- subtypes

abbrev pub is_object : ClassRef → Bool
is_object c = same_class c (class.Library object_class)

abbrev pub reached : TType → Option TType → Bool
reached b None = false
reached b (Some x) = same x b

-- its supertype of that class, or that is that type parameter, is b
abbrev pub reaches : Heads → Sought → TType → TType → Bool
reaches heads s a b = reached b (supertype heads s a)

abbrev pub below_forms : Heads → TType → TType → TType-F TType → TType-F TType → Bool
below_forms heads a b (TType-F.Number k) (TType-F.Number l) = same_kind k l || widens k l
below_forms heads a b TType-F.Boolean TType-F.Boolean = true
below_forms heads a b TType-F.Null TType-F.Null = true
below_forms heads a b TType-F.Null (TType-F.Class d ys) = true
below_forms heads a b TType-F.Null (TType-F.Variable d n) = true
below_forms heads a b TType-F.Null (TType-F.Array y) = true
below_forms heads a b (TType-F.Class c xs) (TType-F.Class d ys) = reaches heads (sought.Class d) a b
below_forms heads a b (TType-F.Variable c m) (TType-F.Class d ys) = reaches heads (sought.Class d) a b
below_forms heads a b (TType-F.Variable c m) (TType-F.Variable d n) = reaches heads (sought.Variable d n) a b
below_forms heads a b (TType-F.Array x) (TType-F.Class d ys) = is_object d
below_forms heads a b x y = false

-- where not both are arrays: primitive types (JLS 4.10.1), classes and type parameters (JLS 4.10.2), an array below
-- Object (JLS 4.10.3), and the type of `null` below each reference type
abbrev pub is_below : Heads → TType → TType → Bool
is_below heads a b = below_forms heads a b (out-TType a) (out-TType b)

-- an array of primitives is below that array alone, and one of references below those of the components' supertypes
abbrev pub below_parts : Heads → Parts → Bool
below_parts heads x = if x.deep && is_some (simple_of x.a) then same x.a x.b else is_below heads x.a x.b

abbrev pub is_subtype : Heads → TType → TType → Bool
is_subtype heads a b = below_parts heads (apart a b)

-- The conversions of assignments and of arguments (JLS 5.2, 5.3).
use Rattle.std.specs.Prelude.{Bool, false, ◌||◌, [], Option, Some, None}
use Rattle.j2k_base.specs.declared.constants.Const.{Const}
use Rattle.java_typed.specs.declared.types.ClassRef.{ClassRef}
use Rattle.java_typed.specs.declared.types.TType.{TType}
use Rattle.java_typed.specs.declared.types.TType.TheVariants as t
use Rattle.java_type_relations.specs.declared.heads.Heads.{Heads}
use Rattle.java_type_relations.specs.declared.kinds.Simple.{Simple}
use Rattle.java_type_relations.specs.Kinds.{box_of, fits, is_within, simple_in, simple_of, unboxed}
use Rattle.java_type_relations.specs.Subtypes.{is_subtype}

abbrev pub class_type : ClassRef → TType
class_type c = t.Class c []

abbrev pub boxed_below : Heads → TType → Option Simple → Bool
boxed_below heads b None = false
boxed_below heads b (Some p) = is_subtype heads (class_type (box_of p)) b

-- boxing, and then a widening reference conversion
abbrev pub is_boxed : Heads → TType → TType → Bool
is_boxed heads a b = boxed_below heads b (simple_of a)

abbrev pub both_within : Option Simple → Option Simple → Bool
both_within (Some p) (Some q) = is_within p q
both_within p q = false

-- unboxing, and then a widening primitive conversion
abbrev pub is_unboxed : TType → TType → Bool
is_unboxed a b = both_within (unboxed a) (simple_of b)

-- the conversions of an argument (JLS 5.3); the strict ones are those to a supertype
abbrev pub is_loose : Heads → TType → TType → Bool
is_loose heads a b = is_subtype heads a b || is_unboxed a b || is_boxed heads a b

-- a constant of type byte, short, char or int in a smaller type
abbrev pub is_narrowed : Option Const → Option Simple → Bool
is_narrowed (Some value) (Some to) = fits value to
is_narrowed value to = false

-- the conversions of an assignment (JLS 5.2)
abbrev pub is_assignable : Heads → TType → Option Const → TType → Bool
is_assignable heads a value b = is_narrowed value (simple_in b) || is_loose heads a b

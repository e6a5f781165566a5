-- The type of a conditional by its two arms (JLS 15.25, tables A to E).
use Rattle.std.specs.Prelude.{Bool, true, false, ◌&&◌, if◌then◌else◌, Option, Some, None}
use Rattle.j2k_base.specs.declared.constants.Kind.{Kind}
use Rattle.j2k_base.specs.declared.constants.Kind.TheVariants as kind
use Rattle.j2k_base.specs.declared.constants.Const.{Const}
use Rattle.j2k_base.specs.declared.constants.Const.TheVariants as constant
use Rattle.java_typed.specs.declared.types.TType.{TType}
use Rattle.java_typed.specs.declared.types.TType.TheVariants as t
use Rattle.java_type_relations.specs.declared.heads.Heads.{Heads}
use Rattle.java_type_relations.specs.declared.kinds.Simple.{Simple}
use Rattle.java_type_relations.specs.declared.kinds.Simple.TheVariants as simple
use Rattle.java_type_relations.specs.Kinds.{box_of, common_kind, fits, simple_in, simple_of}
use Rattle.java_type_relations.specs.Contexts.{class_type}
use Rattle.java_type_relations.specs.Subtypes.{is_subtype}
use Rattle.java_type_relations.specs.Types.{same, same_kind}
use Rattle.java_operators.specs.declared.choices.Choice.{Choice}
use Rattle.java_operators.specs.declared.choices.Choice.TheVariants as by
use Rattle.java_operators.specs.Ways.{is_reference}

-- ---- numbers and truth values (JLS 15.25.1, 15.25.2)

abbrev pub is_byte_and_short : Kind → Kind → Bool
is_byte_and_short kind.Byte kind.Short = true
is_byte_and_short kind.Short kind.Byte = true
is_byte_and_short k l = false

-- a constant of type int whose value is one of byte, short or char
abbrev pub fits_int : Option Const → Kind → Bool
fits_int (Some (constant.Int z)) k = fits (constant.Int z) (simple.Number k)
fits_int v k = false

-- of one type: that; byte and short: short; a smaller type and a constant of it: that type; else promoted together
abbrev pub number_choice : Kind → Option Const → Kind → Option Const → Kind
number_choice k v l w =
    if same_kind k l then k else
    if is_byte_and_short k l then kind.Short else
    if fits_int w k then k else
    if fits_int v l then l else common_kind k l

-- what is a box of its type counts as what the box holds
abbrev pub simple_choice : Simple → Option Const → Simple → Option Const → Option Choice
simple_choice simple.Boolean v simple.Boolean w = Some (by.Simple simple.Boolean)
simple_choice (simple.Number k) v (simple.Number l) w = Some (by.Simple (simple.Number (number_choice k v l w)))
simple_choice p v q w = None

abbrev pub held_choice : Option Simple → Option Const → Option Simple → Option Const → Option Choice
held_choice (Some p) v (Some q) w = simple_choice p v q w
held_choice p v q w = None

abbrev pub value_choice : TType → Option Const → TType → Option Const → Option Choice
value_choice a v b w = held_choice (simple_in a) v (simple_in b) w

-- ---- references (JLS 15.25.3)

abbrev pub boxed_as : TType → Option Simple → TType
boxed_as x None = x
boxed_as x (Some p) = class_type (box_of p)

-- a primitive type counts as its box (JLS 5.1.7)
abbrev pub boxed : TType → TType
boxed x = boxed_as x (simple_of x)

-- the type of which the other is a subtype (JLS 4.10.4); where neither is, no type is said
abbrev pub reference_choice : Heads → TType → TType → Option Choice
reference_choice heads a b =
    if is_subtype heads b a then Some by.First else
    if is_subtype heads a b then Some by.Second else None

abbrev pub or_choice : Option Choice → Option Choice → Option Choice
or_choice (Some c) other = Some c
or_choice None other = other

-- two references of one type have it
abbrev pub chosen : Heads → TType → Option Const → TType → Option Const → Option Choice
chosen heads a v b w =
    if is_reference a && same a b then Some by.First else
    or_choice (value_choice a v b w) (reference_choice heads (boxed a) (boxed b))

abbrev pub simple_type : Simple → TType
simple_type simple.Boolean = t.Boolean
simple_type (simple.Number k) = t.Number k

abbrev pub choice_type : Choice → TType → TType → TType
choice_type (by.Simple p) a b = simple_type p
choice_type by.First a b = boxed a
choice_type by.Second a b = boxed b

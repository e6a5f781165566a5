-- Primitive types, their boxes, and which conversions there are between them.
use Rattle.std.specs.Prelude.{ℕ, ℤ, pos, negsuc, int_le, Bool, true, false, ◌&&◌, ◌||◌, ◌==◌, if◌then◌else◌, Option, Some, None}
use Rattle.j2k_base.specs.declared.constants.Kind.{Kind}
use Rattle.j2k_base.specs.declared.constants.Kind.TheVariants as kind
use Rattle.j2k_base.specs.declared.constants.Const.{Const}
use Rattle.j2k_base.specs.declared.constants.Const.TheVariants as constant
use Rattle.java_lib.specs.Library.{integer_class, long_class, short_class, byte_class, character_class, boolean_class}
use Rattle.java_typed.specs.declared.types.ClassRef.{ClassRef}
use Rattle.java_typed.specs.declared.types.ClassRef.TheVariants as class
use Rattle.java_typed.specs.declared.types.TType.{TType, out-TType}
use Rattle.java_typed.specs.declared.types.TType.TheOpen.{TType-F}
use Rattle.java_type_relations.specs.declared.kinds.Simple.{Simple}
use Rattle.java_type_relations.specs.declared.kinds.Simple.TheVariants as simple
use Rattle.java_type_relations.specs.Types.{same_kind}

-- widening primitive conversions (JLS 5.1.2)
abbrev pub widens : Kind → Kind → Bool
widens kind.Byte kind.Short = true
widens kind.Byte kind.Int = true
widens kind.Byte kind.Long = true
widens kind.Short kind.Int = true
widens kind.Short kind.Long = true
widens kind.Char kind.Int = true
widens kind.Char kind.Long = true
widens kind.Int kind.Long = true
widens k l = false

-- the same primitive type or a wider one (JLS 4.10.1)
abbrev pub is_within : Simple → Simple → Bool
is_within simple.Boolean simple.Boolean = true
is_within (simple.Number k) (simple.Number l) = same_kind k l || widens k l
is_within x y = false

abbrev pub simple_by : TType-F TType → Option Simple
simple_by TType-F.Boolean = Some simple.Boolean
simple_by (TType-F.Number k) = Some (simple.Number k)
simple_by x = None

-- a primitive type
unfoldable pub simple_of : TType → Option Simple
simple_of x = simple_by (out-TType x)

-- boxing (JLS 5.1.7)
abbrev pub box_of : Simple → ClassRef
box_of (simple.Number kind.Byte) = class.Library byte_class
box_of (simple.Number kind.Short) = class.Library short_class
box_of (simple.Number kind.Char) = class.Library character_class
box_of (simple.Number kind.Int) = class.Library integer_class
box_of (simple.Number kind.Long) = class.Library long_class
box_of simple.Boolean = class.Library boolean_class

-- unboxing (JLS 5.1.8)
abbrev pub unboxed_row : ℕ → Option Simple
unboxed_row n =
    if n == integer_class then Some (simple.Number kind.Int) else
    if n == long_class then Some (simple.Number kind.Long) else
    if n == short_class then Some (simple.Number kind.Short) else
    if n == byte_class then Some (simple.Number kind.Byte) else
    if n == character_class then Some (simple.Number kind.Char) else
    if n == boolean_class then Some simple.Boolean else None

abbrev pub unboxed_class : ClassRef → Option Simple
unboxed_class (class.Library n) = unboxed_row n
unboxed_class (class.Project n) = None

abbrev pub unboxed_by : TType-F TType → Option Simple
unboxed_by (TType-F.Class c args) = unboxed_class c
unboxed_by x = None

abbrev pub unboxed : TType → Option Simple
unboxed x = unboxed_by (out-TType x)

abbrev pub or_unboxed : TType → Option Simple → Option Simple
or_unboxed x (Some p) = Some p
or_unboxed x None = unboxed x

-- the primitive type that a type is or is unboxed to
abbrev pub simple_in : TType → Option Simple
simple_in x = or_unboxed x (simple_of x)

-- ---- numeric promotion (JLS 5.6)

abbrev pub promoted_kind : Kind → Kind
promoted_kind kind.Byte = kind.Int
promoted_kind kind.Short = kind.Int
promoted_kind kind.Char = kind.Int
promoted_kind kind.Int = kind.Int
promoted_kind kind.Long = kind.Long

abbrev pub common_kind : Kind → Kind → Kind
common_kind kind.Long l = kind.Long
common_kind kind.Byte l = promoted_kind l
common_kind kind.Short l = promoted_kind l
common_kind kind.Char l = promoted_kind l
common_kind kind.Int l = promoted_kind l

abbrev pub promoted_by : Option Simple → Option Kind
promoted_by (Some (simple.Number k)) = Some (promoted_kind k)
promoted_by x = None

-- of one operand (JLS 5.6.1)
abbrev pub promoted : TType → Option Kind
promoted x = promoted_by (simple_in x)

abbrev pub common_by : Option Simple → Option Simple → Option Kind
common_by (Some (simple.Number k)) (Some (simple.Number l)) = Some (common_kind k l)
common_by x y = None

-- of two operands together (JLS 5.6.2)
abbrev pub promoted_both : TType → TType → Option Kind
promoted_both x y = common_by (simple_in x) (simple_in y)

-- ---- constants in a smaller type (JLS 5.2)

-- a whole number is a value of byte, short or char
abbrev pub is_small : Kind → ℤ → Bool
is_small kind.Byte z = int_le (negsuc 127) z && int_le z (pos 127)
is_small kind.Short z = int_le (negsuc 32767) z && int_le z (pos 32767)
is_small kind.Char z = int_le (pos 0) z && int_le z (pos 65535)
is_small k z = false

abbrev pub fits_kind : Const → Kind → Bool
fits_kind (constant.Byte z) k = is_small k z
fits_kind (constant.Short z) k = is_small k z
fits_kind (constant.Char n) k = is_small k (pos n)
fits_kind (constant.Int z) k = is_small k z
fits_kind v k = false

abbrev pub fits : Const → Simple → Bool
fits v (simple.Number k) = fits_kind v k
fits v simple.Boolean = false

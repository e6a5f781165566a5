-- Which operands an operator takes, and what it gives: two numbers `Int` or two `Long`, as conversions are written
-- (Kotlin specification, "Expressions").
use Rattle.std.specs.Prelude.{Bool, true, false, not, ◌&&◌, ◌||◌, if◌then◌else◌, Option, Some, None}
use Rattle.j2k_base.specs.declared.constants.Kind.TheVariants as kind
use Rattle.kotlin_tree.specs.declared.expressions.KBinary.{KBinary}
use Rattle.kotlin_tree.specs.declared.expressions.KBinary.TheVariants as binary
use Rattle.kotlin_types.specs.declared.kinds.KKind.{KKind}
use Rattle.kotlin_types.specs.declared.classes.KClasses.{KClasses}
use Rattle.kotlin_types.specs.Types.{boolean, not_null, nullable, number, same, string}
use Rattle.kotlin_types.specs.Supertypes.{is_nothing, is_subtype}
use Rattle.kotlin_typing.specs.Members.{is_number}

abbrev pub is_int : KKind → Bool
is_int x = same x (number kind.Int)

abbrev pub is_long : KKind → Bool
is_long x = same x (number kind.Long)

abbrev pub is_boolean : KKind → Bool
is_boolean x = same x boolean

abbrev pub both_ints : KKind → KKind → Bool
both_ints a b = is_int a && is_int b

abbrev pub both_longs : KKind → KKind → Bool
both_longs a b = is_long a && is_long b

abbrev pub both_alike : KKind → KKind → Bool
both_alike a b = both_ints a b || both_longs a b

abbrev pub given_where : Bool → KKind → Option KKind
given_where true x = Some x
given_where false x = None

abbrev pub is_primitive : KKind → Bool
is_primitive x = is_number x || (same x (number kind.Char) || is_boolean x)

-- `==` is for null, numbers, characters and truth values, `===` for all else
abbrev pub compares : KKind → KKind → Bool
compares a b = is_nothing a || (is_nothing b || (is_primitive a && same a b))

abbrev pub identifies : KKind → KKind → Bool
identifies a b = not (is_primitive (not_null a)) && not (is_primitive (not_null b))

abbrev pub sum : KKind → KKind → Option KKind
sum a b = if same a string then Some string else given_where (both_alike a b) a

abbrev pub binary_kind : KBinary → KKind → KKind → Option KKind
binary_kind binary.OrElse a b = given_where (is_boolean a && is_boolean b) boolean
binary_kind binary.AndAlso a b = given_where (is_boolean a && is_boolean b) boolean
binary_kind binary.Equal a b = given_where (compares a b) boolean
binary_kind binary.NotEqual a b = given_where (compares a b) boolean
binary_kind binary.Same a b = given_where (identifies a b) boolean
binary_kind binary.NotSame a b = given_where (identifies a b) boolean
binary_kind binary.Less a b = given_where (both_alike a b) boolean
binary_kind binary.Greater a b = given_where (both_alike a b) boolean
binary_kind binary.LessEqual a b = given_where (both_alike a b) boolean
binary_kind binary.GreaterEqual a b = given_where (both_alike a b) boolean
binary_kind binary.ShiftLeft a b = given_where ((is_int a || is_long a) && is_int b) a
binary_kind binary.ShiftRight a b = given_where ((is_int a || is_long a) && is_int b) a
binary_kind binary.ShiftUnsigned a b = given_where ((is_int a || is_long a) && is_int b) a
binary_kind binary.BitAnd a b = given_where (both_alike a b || (is_boolean a && is_boolean b)) a
binary_kind binary.BitOr a b = given_where (both_alike a b || (is_boolean a && is_boolean b)) a
binary_kind binary.BitXor a b = given_where (both_alike a b || (is_boolean a && is_boolean b)) a
binary_kind binary.Add a b = sum a b
binary_kind binary.Subtract a b = given_where (both_alike a b) a
binary_kind binary.Multiply a b = given_where (both_alike a b) a
binary_kind binary.Divide a b = given_where (both_alike a b) a
binary_kind binary.Remainder a b = given_where (both_alike a b) a

abbrev pub sign_kind : KKind → Option KKind
sign_kind a = if is_long a then Some a else given_where (is_number a) (number kind.Int)

-- the type of what is one or the other: that of the one below which the other is, with `?` where either has one
abbrev pub either_kind : KClasses → KKind → KKind → Option KKind
either_kind classes a b =
    if is_subtype classes a b then Some b else
    if is_subtype classes b a then Some a else
    if is_subtype classes (nullable a) (nullable b) then Some (nullable b) else
    given_where (is_subtype classes (nullable b) (nullable a)) (nullable a)

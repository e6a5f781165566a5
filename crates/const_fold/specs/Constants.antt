-- The value of a constant expression (JLS 15.28): operands are promoted, the operation is made in whole numbers, and its result is cut to the width of its kind.
use Rattle.std.specs.Prelude.{ℕ, ℤ, pos, negsuc, neg_ℤ, ◌+ℤ◌, ◌-ℤ◌, ◌*ℤ◌, ◌^◌, ◌/◌, unsigned_abs, Bool, true, false, not, ◌&&◌, ◌||◌, if◌then◌else◌, Option, Some, None, List, ◌∷◌, [], ◌++◌, codes, ◌≡◌, nat_eq, int_div, int_rem, int_lt, int_le, bit_and, bit_or, bit_xor}
use Rattle.std.specs.Ordering.{int_eq}
use Rattle.std.specs.Fmt.{signed_decimal}
use Rattle.std.specs.Cmp.Lexicographic.{pointwise}
use Rattle.std.specs.Int.{Width, w8, w16, w32, w64, cast_unsigned, int_wrap, int_rem_euclid, int_div_euclid}
use Rattle.j2k_base.specs.declared.constants.Kind.{Kind}
use Rattle.j2k_base.specs.declared.constants.Kind.TheVariants as kind
use Rattle.j2k_base.specs.declared.constants.Op2.{Op2}
use Rattle.j2k_base.specs.declared.constants.Op2.TheVariants as by
use Rattle.j2k_base.specs.declared.constants.Const.{Const}
use Rattle.j2k_base.specs.declared.constants.Const.TheVariants as constant
use Rattle.j2k_base.specs.declared.constants.Value.{Value}
use Rattle.j2k_base.specs.declared.constants.Value.TheVariants.{Number, Text}
use Rattle.j2k_base.specs.declared.constants.CExpr.{CExpr, fold-CExpr}
use Rattle.j2k_base.specs.declared.constants.CExpr.TheOpen.{CExpr-F}

-- ---- kinds

-- the width of a kind's values (JLS 4.2.1)
abbrev pub width : Kind → Width
width kind.Byte = w8
width kind.Short = w16
width kind.Char = w16
width kind.Int = w32
width kind.Long = w64

-- promotion of one operand (JLS 5.6.1)
abbrev pub promoted : Kind → Kind
promoted kind.Byte = kind.Int
promoted kind.Short = kind.Int
promoted kind.Char = kind.Int
promoted kind.Int = kind.Int
promoted kind.Long = kind.Long

-- promotion of two operands together (JLS 5.6.2)
abbrev pub common : Kind → Kind → Kind
common kind.Byte other = promoted other
common kind.Short other = promoted other
common kind.Char other = promoted other
common kind.Int other = promoted other
common kind.Long other = kind.Long

-- the constant of a kind with the low bits of a whole number (JLS 5.1.3): two's complement, `char` without a sign
abbrev pub cut : Kind → ℤ → Const
cut kind.Byte z = constant.Byte (int_wrap w8 z)
cut kind.Short z = constant.Short (int_wrap w16 z)
cut kind.Char z = constant.Char (unsigned_abs (int_rem_euclid z (pos 65536)))
cut kind.Int z = constant.Int (int_wrap w32 z)
cut kind.Long z = constant.Long (int_wrap w64 z)

-- the bits of a whole number in two's complement
abbrev pub bits_of : Kind → ℤ → ℕ
bits_of kind z = cast_unsigned (width kind) z

-- how far a value of a promoted kind is shifted: the low 5 bits of the distance, or 6 for `long` (JLS 15.19)
abbrev pub distance : Kind → ℤ → ℕ
distance kind.Byte z = unsigned_abs (int_rem_euclid z (pos 32))
distance kind.Short z = unsigned_abs (int_rem_euclid z (pos 32))
distance kind.Char z = unsigned_abs (int_rem_euclid z (pos 32))
distance kind.Int z = unsigned_abs (int_rem_euclid z (pos 32))
distance kind.Long z = unsigned_abs (int_rem_euclid z (pos 64))

-- ---- binary operators

-- An operator on two whole numbers (JLS 15.17 to 15.24). `left` is the promoted kind of x, which alone counts in a shift,
-- and `both` is the kind of the two together. A quotient is truncated, a remainder has the dividend's sign, and a zero divisor has no value.
abbrev pub operated : Op2 → Kind → Kind → ℤ → ℤ → Option Const
operated by.Add left both x y = Some (cut both (x +ℤ y))
operated by.Sub left both x y = Some (cut both (x -ℤ y))
operated by.Mul left both x y = Some (cut both (x *ℤ y))
operated by.Div left both x y = if int_eq y (pos 0) then None else Some (cut both (int_div x y))
operated by.Rem left both x y = if int_eq y (pos 0) then None else Some (cut both (int_rem x y))
operated by.Shl left both x y = Some (cut left (x *ℤ pos (2 ^ distance left y)))
operated by.Shr left both x y = Some (cut left (int_div_euclid x (pos (2 ^ distance left y))))
operated by.Ushr left both x y = Some (cut left (pos (bits_of left x / 2 ^ distance left y)))
operated by.And left both x y = Some (cut both (pos (bit_and (bits_of both x) (bits_of both y))))
operated by.Or left both x y = Some (cut both (pos (bit_or (bits_of both x) (bits_of both y))))
operated by.Xor left both x y = Some (cut both (pos (bit_xor (bits_of both x) (bits_of both y))))
operated by.Lt left both x y = Some (constant.Bool (int_lt x y))
operated by.Le left both x y = Some (constant.Bool (int_le x y))
operated by.Gt left both x y = Some (constant.Bool (int_lt y x))
operated by.Ge left both x y = Some (constant.Bool (int_le y x))
operated by.Eq left both x y = Some (constant.Bool (int_eq x y))
operated by.Ne left both x y = Some (constant.Bool (not (int_eq x y)))
operated by.AndAlso left both x y = None
operated by.OrElse left both x y = None

-- two truth values are the same
abbrev pub same_truth : Bool → Bool → Bool
same_truth true q = q
same_truth false q = not q

-- an operator on two truth values (JLS 15.21.2, 15.22.2, 15.23, 15.24)
abbrev pub decided : Op2 → Bool → Bool → Option Const
decided by.And p q = Some (constant.Bool (p && q))
decided by.AndAlso p q = Some (constant.Bool (p && q))
decided by.Or p q = Some (constant.Bool (p || q))
decided by.OrElse p q = Some (constant.Bool (p || q))
decided by.Xor p q = Some (constant.Bool (not (same_truth p q)))
decided by.Ne p q = Some (constant.Bool (not (same_truth p q)))
decided by.Eq p q = Some (constant.Bool (same_truth p q))
decided _ p q = None

-- a number of a kind on the left of an operator
abbrev pub with_number : Op2 → Kind → ℤ → Const → Option Const
with_number op left x (constant.Byte y) = operated op left (common left kind.Byte) x y
with_number op left x (constant.Short y) = operated op left (common left kind.Short) x y
with_number op left x (constant.Char n) = operated op left (common left kind.Char) x (pos n)
with_number op left x (constant.Int y) = operated op left (common left kind.Int) x y
with_number op left x (constant.Long y) = operated op left (common left kind.Long) x y
with_number op left x (constant.Bool q) = None

-- a truth value on the left of an operator
abbrev pub with_truth : Op2 → Bool → Const → Option Const
with_truth op p (constant.Bool q) = decided op p q
with_truth op p _ = None

-- the value of a binary operator on two constants, if it has one
abbrev pub value2 : Op2 → Const → Const → Option Const
value2 op (constant.Byte x) b = with_number op (promoted kind.Byte) x b
value2 op (constant.Short x) b = with_number op (promoted kind.Short) x b
value2 op (constant.Char n) b = with_number op (promoted kind.Char) (pos n) b
value2 op (constant.Int x) b = with_number op (promoted kind.Int) x b
value2 op (constant.Long x) b = with_number op (promoted kind.Long) x b
value2 op (constant.Bool p) b = with_truth op p b

-- ---- unary operators and casts

-- an operation on a number by its kind; a truth value has none
abbrev pub on_number : (Kind → ℤ → Const) → Const → Option Const
on_number f (constant.Byte x) = Some (f kind.Byte x)
on_number f (constant.Short x) = Some (f kind.Short x)
on_number f (constant.Char n) = Some (f kind.Char (pos n))
on_number f (constant.Int x) = Some (f kind.Int x)
on_number f (constant.Long x) = Some (f kind.Long x)
on_number f (constant.Bool p) = None

-- `(kind) a` (JLS 5.5)
abbrev pub cast_value : Kind → Const → Option Const
cast_value to a = on_number (λ from x. cut to x) a

-- `+a` (JLS 15.15.3)
abbrev pub plus_value : Const → Option Const
plus_value a = on_number (λ of x. cut (promoted of) x) a

-- `-a` (JLS 15.15.4)
abbrev pub minus_value : Const → Option Const
minus_value a = on_number (λ of x. cut (promoted of) (neg_ℤ x)) a

-- `~a`, which is `-a - 1` (JLS 15.15.5)
abbrev pub flip_value : Const → Option Const
flip_value a = on_number (λ of x. cut (promoted of) (neg_ℤ x -ℤ pos 1)) a

-- `!a` (JLS 15.15.6)
abbrev pub not_value : Const → Option Const
not_value (constant.Bool p) = Some (constant.Bool (not p))
not_value _ = None

-- a constant is a number
abbrev pub IsNumber : Const → Type 0
IsNumber (constant.Bool p) = ⊥
IsNumber _ = Unit {0}

-- ---- texts

-- the text of a number or a truth value (JLS 5.1.11)
abbrev pub text_of : Const → List ℕ
text_of (constant.Byte x) = signed_decimal x
text_of (constant.Short x) = signed_decimal x
text_of (constant.Char n) = n ∷ []
text_of (constant.Int x) = signed_decimal x
text_of (constant.Long x) = signed_decimal x
text_of (constant.Bool true) = codes "true"
text_of (constant.Bool false) = codes "false"

-- a number or a truth value as a value, if there is one
abbrev pub as_value : Option Const → Option Value
as_value (Some c) = Some (Number c)
as_value None = None

-- a String and the text of a number or a truth value: `+` alone has a value (JLS 15.18.1)
abbrev pub joined : Op2 → List ℕ → List ℕ → Option Value
joined by.Add s t = Some (Text (s ++ t))
joined _ s t = None

-- two Strings have the same units
abbrev pub same_text : List ℕ → List ℕ → Bool
same_text s t = pointwise nat_eq s t

-- two Strings: joined, or compared, since equal constant Strings are one object (JLS 3.10.5, 15.18.1, 15.21.3)
abbrev pub on_texts : Op2 → List ℕ → List ℕ → Option Value
on_texts by.Add s t = Some (Text (s ++ t))
on_texts by.Eq s t = Some (Number (constant.Bool (same_text s t)))
on_texts by.Ne s t = Some (Number (constant.Bool (not (same_text s t))))
on_texts _ s t = None

-- a binary operator on two values
abbrev pub two_value : Op2 → Value → Value → Option Value
two_value op (Number a) (Number b) = as_value (value2 op a b)
two_value op (Number a) (Text t) = joined op (text_of a) t
two_value op (Text s) (Number b) = joined op s (text_of b)
two_value op (Text s) (Text t) = on_texts op s t

-- ---- the conditional

-- a whole number is a value of a kind (JLS 4.2.1)
abbrev pub is_in : Kind → ℤ → Bool
is_in kind.Byte z = int_le (negsuc 127) z && int_le z (pos 127)
is_in kind.Short z = int_le (negsuc 32767) z && int_le z (pos 32767)
is_in kind.Char z = int_le (pos 0) z && int_le z (pos 65535)
is_in kind.Int z = int_le (negsuc 2147483647) z && int_le z (pos 2147483647)
is_in kind.Long z = int_le (negsuc 9223372036854775807) z && int_le z (pos 9223372036854775807)

-- a smaller kind beside an `int` of this value
abbrev pub beside_int : Kind → ℤ → Kind
beside_int small z = if is_in small z then small else kind.Int

-- the kind of a conditional with two numbers (JLS 15.25)
abbrev pub chosen_kind : Kind → ℤ → Kind → ℤ → Kind
chosen_kind kind.Byte x kind.Byte y = kind.Byte
chosen_kind kind.Byte x kind.Short y = kind.Short
chosen_kind kind.Short x kind.Byte y = kind.Short
chosen_kind kind.Short x kind.Short y = kind.Short
chosen_kind kind.Char x kind.Char y = kind.Char
chosen_kind kind.Byte x kind.Int y = beside_int kind.Byte y
chosen_kind kind.Short x kind.Int y = beside_int kind.Short y
chosen_kind kind.Char x kind.Int y = beside_int kind.Char y
chosen_kind kind.Int x kind.Byte y = beside_int kind.Byte x
chosen_kind kind.Int x kind.Short y = beside_int kind.Short x
chosen_kind kind.Int x kind.Char y = beside_int kind.Char x
chosen_kind left x right y = common left right

-- a number of a kind before the colon
abbrev pub chosen_with : Bool → Kind → ℤ → Const → Option Const
chosen_with p left x (constant.Byte y) = Some (cut (chosen_kind left x kind.Byte y) (if p then x else y))
chosen_with p left x (constant.Short y) = Some (cut (chosen_kind left x kind.Short y) (if p then x else y))
chosen_with p left x (constant.Char n) = Some (cut (chosen_kind left x kind.Char (pos n)) (if p then x else pos n))
chosen_with p left x (constant.Int y) = Some (cut (chosen_kind left x kind.Int y) (if p then x else y))
chosen_with p left x (constant.Long y) = Some (cut (chosen_kind left x kind.Long y) (if p then x else y))
chosen_with p left x (constant.Bool r) = None

-- a truth value before the colon
abbrev pub chosen_truth : Bool → Bool → Const → Option Const
chosen_truth p q (constant.Bool r) = Some (constant.Bool (if p then q else r))
chosen_truth p q _ = None

-- a conditional of two numbers, or of two truth values
abbrev pub chosen_number : Bool → Const → Const → Option Const
chosen_number p (constant.Byte x) b = chosen_with p kind.Byte x b
chosen_number p (constant.Short x) b = chosen_with p kind.Short x b
chosen_number p (constant.Char n) b = chosen_with p kind.Char (pos n) b
chosen_number p (constant.Int x) b = chosen_with p kind.Int x b
chosen_number p (constant.Long x) b = chosen_with p kind.Long x b
chosen_number p (constant.Bool q) b = chosen_truth p q b

-- `p ? a : b`, of two constants of one sort
abbrev pub chosen_value : Bool → Value → Value → Option Value
chosen_value p (Number a) (Number b) = as_value (chosen_number p a b)
chosen_value p (Number a) (Text t) = None
chosen_value p (Text s) (Number b) = None
chosen_value p (Text s) (Text t) = Some (Text (if p then s else t))

-- ---- trees

-- an operation on a number or a truth value; a String has none
abbrev pub on_constant : (Const → Option Const) → Option Value → Option Value
on_constant f (Some (Number c)) = as_value (f c)
on_constant f _ = None

-- an operation on two values, if there are two
abbrev pub on_two : (Value → Value → Option Value) → Option Value → Option Value → Option Value
on_two f (Some v) (Some w) = f v w
on_two f _ _ = None

-- a conditional whose condition is a truth value; each of its parts has to have a value (JLS 15.28)
abbrev pub on_three : Option Value → Option Value → Option Value → Option Value
on_three (Some (Number (constant.Bool p))) v w = on_two (chosen_value p) v w
on_three _ v w = None

-- the value of a tree from those of its parts
abbrev pub value_at : CExpr-F (Option Value) → Option Value
value_at (CExpr-F.Leaf v) = Some v
value_at (CExpr-F.Cast to a) = on_constant (cast_value to) a
value_at (CExpr-F.Plus a) = on_constant plus_value a
value_at (CExpr-F.Minus a) = on_constant minus_value a
value_at (CExpr-F.Flip a) = on_constant flip_value a
value_at (CExpr-F.Not a) = on_constant not_value a
value_at (CExpr-F.Two op a b) = on_two (two_value op) a b
value_at (CExpr-F.Choose c a b) = on_three c a b

-- the value of a constant expression, if it has one (JLS 15.28)
abbrev pub value_of : CExpr → Option Value
value_of e = fold-CExpr (Option Value) value_at e

-- a constant expression has this value
abbrev pub ConstantValue : CExpr → Value → Type 0
ConstantValue e v = value_of e ≡ Some v

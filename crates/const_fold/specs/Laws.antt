-- Which operators have a value on which constants.
use Rattle.std.specs.Prelude.{◌≡◌, pos, Bool, true, false, not, ◌&&◌, is_some}
use Rattle.std.specs.Ordering.{int_eq}
use Rattle.j2k_base.specs.declared.constants.Kind.{Kind}
use Rattle.j2k_base.specs.declared.constants.Op2.{Op2}
use Rattle.j2k_base.specs.declared.constants.Op2.TheVariants as by
use Rattle.j2k_base.specs.declared.constants.Const.{Const}
use Rattle.j2k_base.specs.declared.constants.Const.TheVariants as constant
use Rattle.j2k_base.specs.declared.constants.Value.{Value}
use Rattle.j2k_base.specs.declared.constants.CExpr.{CExpr}
use Rattle.const_fold.specs.Constants.{value2, cast_value, ConstantValue}

-- an operator on two numbers: all but `&&` and `||`
abbrev pub is_numeric : Op2 → Bool
is_numeric by.AndAlso = false
is_numeric by.OrElse = false
is_numeric _ = true

-- an operator on two truth values: `& | ^ == != && ||`
abbrev pub is_logical : Op2 → Bool
is_logical by.And = true
is_logical by.Or = true
is_logical by.Xor = true
is_logical by.Eq = true
is_logical by.Ne = true
is_logical by.AndAlso = true
is_logical by.OrElse = true
is_logical _ = false

-- `/` or `%`
abbrev pub is_division : Op2 → Bool
is_division by.Div = true
is_division by.Rem = true
is_division _ = false

-- a number, and not a truth value
abbrev pub is_number : Const → Bool
is_number (constant.Bool p) = false
is_number _ = true

-- the number 0
abbrev pub is_zero : Const → Bool
is_zero (constant.Byte x) = int_eq x (pos 0)
is_zero (constant.Short x) = int_eq x (pos 0)
is_zero (constant.Char n) = int_eq (pos n) (pos 0)
is_zero (constant.Int x) = int_eq x (pos 0)
is_zero (constant.Long x) = int_eq x (pos 0)
is_zero (constant.Bool p) = false

-- an operator has a value on two constants
abbrev pub has_value : Op2 → Const → Const → Bool
has_value op (constant.Bool p) (constant.Bool q) = is_logical op
has_value op a b = is_number a && is_number b && is_numeric op && not (is_division op && is_zero b)

abbrev pub OperatorsAreCovered : Type 0
OperatorsAreCovered = (op : Op2) (a b : Const) → is_some (value2 op a b) ≡ has_value op a b

abbrev pub CastsAreCovered : Type 0
CastsAreCovered = (to : Kind) (a : Const) → is_some (cast_value to a) ≡ is_number a

abbrev pub OneValue : Type 0
OneValue = (e : CExpr) (v w : Value) → ConstantValue e v → ConstantValue e w → v ≡ w

-- Which operands an operator takes (JLS 15.15 to 15.24).
use Rattle.std.specs.Prelude.{Bool, true, false}
use Rattle.j2k_base.specs.declared.constants.Kind.{Kind}
use Rattle.j2k_base.specs.declared.constants.Kind.TheVariants as kind
use Rattle.j2k_base.specs.declared.constants.Op2.{Op2}
use Rattle.j2k_base.specs.declared.constants.Op2.TheVariants as op
use Rattle.java_typed.specs.declared.exprs.UnaryOp.{UnaryOp}
use Rattle.java_typed.specs.declared.exprs.UnaryOp.TheVariants as unary

-- a type in which operators work (JLS 5.6)
abbrev pub is_promoted : Kind → Bool
is_promoted kind.Int = true
is_promoted kind.Long = true
is_promoted k = false

-- the multiplicative and the additive operators, and `&`, `|` and `^` on numbers (JLS 15.17, 15.18.2, 15.22.1): two numbers
-- of one type, of which the result is one
abbrev pub is_arithmetic : Op2 → Bool
is_arithmetic op.Add = true
is_arithmetic op.Sub = true
is_arithmetic op.Mul = true
is_arithmetic op.Div = true
is_arithmetic op.Rem = true
is_arithmetic op.And = true
is_arithmetic op.Or = true
is_arithmetic op.Xor = true
is_arithmetic o = false

-- the shifts (JLS 15.19)
abbrev pub is_shift : Op2 → Bool
is_shift op.Shl = true
is_shift op.Shr = true
is_shift op.Ushr = true
is_shift o = false

-- comparisons of two numbers of one type (JLS 15.20.1, 15.21.1)
abbrev pub is_comparison : Op2 → Bool
is_comparison op.Lt = true
is_comparison op.Le = true
is_comparison op.Gt = true
is_comparison op.Ge = true
is_comparison op.Eq = true
is_comparison op.Ne = true
is_comparison o = false

-- on two truth values, with a truth value (JLS 15.21.2, 15.22.2, 15.23, 15.24)
abbrev pub is_logical : Op2 → Bool
is_logical op.Eq = true
is_logical op.Ne = true
is_logical op.And = true
is_logical op.Or = true
is_logical op.Xor = true
is_logical op.AndAlso = true
is_logical op.OrElse = true
is_logical o = false

-- `&`, `|` and `^`, which an assignment takes on truth values (JLS 15.22.2, 15.26.2)
abbrev pub is_bitwise : Op2 → Bool
is_bitwise op.And = true
is_bitwise op.Or = true
is_bitwise op.Xor = true
is_bitwise o = false

-- on a number, before it (JLS 15.15.3 to 15.15.5)
abbrev pub is_sign : UnaryOp → Bool
is_sign unary.Plus = true
is_sign unary.Minus = true
is_sign unary.Complement = true
is_sign unary.Not = false

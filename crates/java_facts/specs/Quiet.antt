-- Expressions whose evaluation makes no step and can't fail.
use Rattle.std.specs.Prelude.{Bool, true, false, ◌&&◌}
use Rattle.j2k_base.specs.declared.constants.Op2.{Op2}
use Rattle.j2k_base.specs.declared.constants.Op2.TheVariants as op
use Rattle.java_typed.specs.declared.exprs.Conversion.{Conversion}
use Rattle.java_typed.specs.declared.exprs.Conversion.TheVariants as to
use Rattle.java_typed.specs.declared.exprs.TExpr.{TExpr, fold-TExpr}
use Rattle.java_typed.specs.declared.exprs.TExpr.TheOpen.{TExpr-F}
use Rattle.java_facts.specs.Kinds.{Sort, Primitive, sort_of}

-- a quotient may have a divisor of 0 (JLS 15.17.2)
abbrev pub never_fails : Op2 → Bool
never_fails op.Div = false
never_fails op.Rem = false
never_fails _ = true

-- an unboxing may find null (JLS 5.1.8)
abbrev pub is_quiet_conversion : Conversion → Bool
is_quiet_conversion (to.Number from kind) = true
is_quiet_conversion (to.Box kind) = false
is_quiet_conversion (to.Unbox kind) = false
is_quiet_conversion to.BoxBoolean = false
is_quiet_conversion to.UnboxBoolean = false

abbrev pub is_primitive : Sort → Bool
is_primitive Primitive = true
is_primitive _ = false

abbrev pub quiet_by : TExpr-F Bool → Bool
quiet_by (TExpr-F.Literal v at) = true
quiet_by (TExpr-F.Null at) = true
quiet_by (TExpr-F.Constant v inner) = true
quiet_by (TExpr-F.This at is_written kind) = true
quiet_by (TExpr-F.Local name at kind) = true
quiet_by (TExpr-F.Paren at inner) = inner
quiet_by (TExpr-F.Cast at kind inner) = inner && is_primitive (sort_of kind.kind)
quiet_by (TExpr-F.Convert c inner) = inner && is_quiet_conversion c
quiet_by (TExpr-F.Unary o at inner) = inner
quiet_by (TExpr-F.Binary left o at right) = left && right && never_fails o
quiet_by (TExpr-F.Same left is_equal at right) = left && right
quiet_by (TExpr-F.Instanceof inner at kind) = inner
quiet_by (TExpr-F.Conditional test first second kind) = test && first && second
quiet_by _ = false

unfoldable pub is_quiet : TExpr → Bool
is_quiet = fold-TExpr Bool quiet_by

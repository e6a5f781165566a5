-- Operators as typed trees, with the conversions of their operands.
use Rattle.std.specs.Prelude.{Bool, true, false, Option, Some, None}
use Rattle.java_tree.specs.declared.tokens.Position.{Position}
use Rattle.j2k_base.specs.declared.constants.Op2.{Op2}
use Rattle.j2k_base.specs.declared.constants.Op2.TheVariants as op
use Rattle.java_typed.specs.declared.types.TType.{TType}
use Rattle.java_typed.specs.declared.exprs.Conversion.{Conversion}
use Rattle.java_typed.specs.declared.exprs.UnaryOp.{UnaryOp}
use Rattle.java_typed.specs.declared.exprs.TExpr.{TExpr}
use Rattle.java_typed.specs.declared.exprs.TExpr.TheVariants as t
use Rattle.java_type_relations.specs.declared.kinds.Simple.{Simple}
use Rattle.java_type_relations.specs.declared.kinds.Simple.TheVariants as simple
use Rattle.java_operators.specs.declared.ways.Way.{Way}
use Rattle.java_operators.specs.declared.ways.Way.TheVariants as way
use Rattle.java_operators.specs.declared.steps.Steps.{Steps}
use Rattle.java_operators.specs.Steps.{operand_steps}

abbrev pub put_step : Option Conversion → TExpr → TExpr
put_step None x = x
put_step (Some c) x = t.Convert c x

-- an expression in its conversions
abbrev pub stepped : Steps → TExpr → TExpr
stepped s x = put_step s.second (put_step s.first x)

-- an operand of a type, in the type that its operator works in
abbrev pub in_type : Simple → TType → TExpr → TExpr
in_type p a x = stepped (operand_steps a p) x

abbrev pub unary_tree : UnaryOp → Simple → Position → TExpr → TType → TExpr
unary_tree o p at x a = t.Unary o at (in_type p a x)

abbrev pub is_equal : Op2 → Bool
is_equal op.Eq = true
is_equal o = false

abbrev pub binary_tree : Op2 → Way → TExpr → TType → Position → TExpr → TType → TExpr
binary_tree o (way.Arithmetic k) x a at y b = t.Binary (in_type (simple.Number k) a x) o at (in_type (simple.Number k) b y)
binary_tree o (way.Shift k l) x a at y b = t.Binary (in_type (simple.Number k) a x) o at (in_type (simple.Number l) b y)
binary_tree o (way.Comparison k) x a at y b = t.Binary (in_type (simple.Number k) a x) o at (in_type (simple.Number k) b y)
binary_tree o way.Logical x a at y b = t.Binary (in_type simple.Boolean a x) o at (in_type simple.Boolean b y)
binary_tree o way.Concat x a at y b = t.Concat x at y
binary_tree o way.Same x a at y b = t.Same x (is_equal o) at y

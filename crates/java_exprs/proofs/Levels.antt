-- Levels are small.
use Rattle.std.proofs.Common.{◌≤◌, arith}
use Rattle.java_tree.specs.declared.exprs.BinaryOp.{BinaryOp}
use Rattle.java_tree.specs.declared.exprs.BinaryOp.TheVariants as op
use Rattle.java_tree.specs.Trees.{level}
use Rattle.java_expr_grammar.proofs.LawsToCite.{expr_parts as parts}

pub level_small : (o : BinaryOp) → level o ≤ 13
level_small op.OrElse = omega arith
level_small op.AndAlso = omega arith
level_small op.BitOr = omega arith
level_small op.BitXor = omega arith
level_small op.BitAnd = omega arith
level_small op.Equal = omega arith
level_small op.NotEqual = omega arith
level_small op.Less = omega arith
level_small op.LessEqual = omega arith
level_small op.Greater = omega arith
level_small (op.GreaterEqual second) = omega arith
level_small op.ShiftLeft = omega arith
level_small (op.ShiftRight second) = omega arith
level_small (op.ShiftUnsigned second third) = omega arith
level_small op.Add = omega arith
level_small op.Subtract = omega arith
level_small op.Multiply = omega arith
level_small op.Divide = omega arith
level_small op.Remainder = omega arith

pub ruleset levels = (parts, level_small)

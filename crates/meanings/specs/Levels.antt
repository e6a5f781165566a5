-- How strongly operators bind: the same in Java (JLS 15.17, 15.18) and in Kotlin (additiveExpression, multiplicativeExpression).
use Rattle.std.specs.Prelude.{ℕ}
use Rattle.meanings.specs.declared.operators.Operator.{Operator}
use Rattle.meanings.specs.declared.operators.Operator.TheVariants.{Plus, Minus, Times}

-- additive 0, multiplicative 1; a place of the grammar takes the forms of its level and above
abbrev pub level : Operator → ℕ
level Plus = 0
level Minus = 0
level Times = 1

-- of names, literals and parentheses
abbrev pub primary_level : ℕ
primary_level = 2

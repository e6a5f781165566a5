-- The operators of the forms that are taken, as those of constant expressions.
use Rattle.j2k_base.specs.declared.constants.Op2.{Op2}
use Rattle.j2k_base.specs.declared.constants.Op2.TheVariants.{Add, Sub, Mul}
use Rattle.meanings.specs.declared.operators.Operator.{Operator}
use Rattle.meanings.specs.declared.operators.Operator.TheVariants.{Plus, Minus, Times}

-- the operation of an operator (JLS 15.17.1, 15.18.2; Kotlin, class Int: `plus`, `minus`, `times`)
abbrev pub operation : Operator → Op2
operation Plus = Add
operation Minus = Sub
operation Times = Mul

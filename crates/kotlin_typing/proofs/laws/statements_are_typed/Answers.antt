use Rattle.kotlin_typing.proofs.Premises.{expression_typed, first_told, if_told, lock_told, while_told}
use Rattle.kotlin_typing.proofs.laws.statements_are_typed.Goals as goal

pub returns-clause-first : goal.returns-clause-first
returns-clause-first c = first_told

pub returns-clause-expression : goal.returns-clause-expression
returns-clause-expression c = expression_typed

pub returns-clause-conditional : goal.returns-clause-conditional
returns-clause-conditional c = if_told

pub returns-clause-repeated : goal.returns-clause-repeated
returns-clause-repeated c = while_told

pub returns-clause-locked : goal.returns-clause-locked
returns-clause-locked c = lock_told

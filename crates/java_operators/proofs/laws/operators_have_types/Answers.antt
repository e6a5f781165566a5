use Rattle.java_operators.proofs.Typed.{binary_typed, unary_typed}
use Rattle.java_operators.proofs.laws.operators_have_types.Goals as goal

pub returns-clause-unary : goal.returns-clause-unary
returns-clause-unary c = λ heads declared o at x a p s h. unary_typed heads declared o at x a p s h

pub returns-clause-binary : goal.returns-clause-binary
returns-clause-binary c = λ heads declared o at x y a b w s h g. binary_typed heads declared at x y a b h g o w s

use Rattle.kotlin_typing_facts.proofs.Told.{binary_told, either_told, not_null_told}
use Rattle.kotlin_typing_facts.proofs.laws.operators_take_their_operands.Goals as goal

pub returns-clause-not_null : goal.returns-clause-not_null
returns-clause-not_null c = not_null_told

pub returns-clause-binary : goal.returns-clause-binary
returns-clause-binary c = binary_told

pub returns-clause-conditional : goal.returns-clause-conditional
returns-clause-conditional c = either_told

use Rattle.kotlin_typing_facts.proofs.Alternatives.{when_told, when_value_told}
use Rattle.kotlin_typing_facts.proofs.laws.alternatives_are_typed.Goals as goal

pub returns-clause-statements : goal.returns-clause-statements
returns-clause-statements c = when_told

pub returns-clause-value : goal.returns-clause-value
returns-clause-value c = when_value_told

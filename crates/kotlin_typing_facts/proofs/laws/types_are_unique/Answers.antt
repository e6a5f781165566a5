use Rattle.kotlin_typing_facts.proofs.Told.{same_told}
use Rattle.kotlin_typing.proofs.LawsToCite.{one_type}
use Rattle.kotlin_typing_facts.proofs.laws.types_are_unique.Goals as goal

pub returns-clause-same : goal.returns-clause-same
returns-clause-same c = same_told

pub returns-clause-one : goal.returns-clause-one
returns-clause-one c = one_type

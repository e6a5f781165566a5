use Rattle.kotlin_typing_facts.proofs.Alternatives.{cast_told, test_told}
use Rattle.kotlin_typing_facts.proofs.laws.casts_are_typed.Goals as goal

pub returns-clause-cast : goal.returns-clause-cast
returns-clause-cast c = cast_told

pub returns-clause-test : goal.returns-clause-test
returns-clause-test c = test_told

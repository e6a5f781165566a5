use Rattle.kotlin_typing_facts.proofs.Alternatives.{lambda_told}
use Rattle.kotlin_typing_facts.proofs.laws.lambdas_are_typed.Goals as goal

pub returns : goal.returns
returns c = lambda_told

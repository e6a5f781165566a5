use Rattle.kotlin_typing_facts.proofs.Alternatives.{return_told}
use Rattle.kotlin_typing_facts.proofs.laws.returns_leave.Goals as goal

pub returns : goal.returns
returns c = return_told

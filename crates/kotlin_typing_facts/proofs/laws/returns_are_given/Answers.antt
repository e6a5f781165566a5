use Rattle.kotlin_typing_facts.proofs.Told.{give_told}
use Rattle.kotlin_typing_facts.proofs.laws.returns_are_given.Goals as goal

pub returns : goal.returns
returns c = give_told

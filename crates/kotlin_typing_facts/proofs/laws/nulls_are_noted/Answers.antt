use Rattle.kotlin_typing_facts.proofs.Told.{null_told}
use Rattle.kotlin_typing_facts.proofs.laws.nulls_are_noted.Goals as goal

pub returns : goal.returns
returns c = null_told

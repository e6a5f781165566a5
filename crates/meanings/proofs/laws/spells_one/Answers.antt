use Rattle.meanings.proofs.Spelling.{spells_one}
use Rattle.meanings.proofs.laws.spells_one.Goals as goal

pub returns : goal.returns
returns c = spells_one

use Rattle.meanings.proofs.Whole.{runs_grow}
use Rattle.meanings.proofs.laws.runs_grow.Goals as goal

pub returns : goal.returns
returns c = runs_grow

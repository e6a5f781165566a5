use Rattle.meanings.proofs.Whole.{equal_runs}
use Rattle.meanings.proofs.laws.equal_runs.Goals as goal

pub returns : goal.returns
returns c args = equal_runs _

use Rattle.meanings.proofs.Whole.{matching_runs}
use Rattle.meanings.proofs.laws.matching_runs.Goals as goal

pub returns : goal.returns
returns c args = matching_runs _

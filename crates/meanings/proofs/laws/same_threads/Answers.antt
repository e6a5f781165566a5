use Rattle.meanings.proofs.SamePrograms.{programs_same}
use Rattle.meanings.proofs.laws.same_threads.Goals as goal

pub returns : goal.returns
returns c = programs_same

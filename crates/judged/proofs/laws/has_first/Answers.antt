use Rattle.judged.proofs.First.{has_first}
use Rattle.judged.proofs.laws.has_first.Goals as goal

pub returns : goal.returns
returns g c = has_first

use Rattle.judged.proofs.First.{one_first}
use Rattle.judged.proofs.laws.one_first.Goals as goal

pub returns : goal.returns
returns g c = one_first

use Rattle.meanings.proofs.Numbers.{threads_agree}
use Rattle.meanings.proofs.laws.threads_agree.Goals as goal

pub returns : goal.returns
returns c = threads_agree

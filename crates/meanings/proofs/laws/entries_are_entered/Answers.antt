use Rattle.meanings.proofs.Entered.{entries_are_entered}
use Rattle.meanings.proofs.laws.entries_are_entered.Goals as goal

pub returns : goal.returns
returns c = entries_are_entered

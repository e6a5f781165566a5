use Rattle.kotlin_flow.proofs.Runs.{lock_ends, lock_stays}
use Rattle.kotlin_flow.proofs.laws.return_leaves_the_lock.Goals as goal

pub returns-clause-ends : goal.returns-clause-ends
returns-clause-ends c = lock_ends

pub returns-clause-stays : goal.returns-clause-stays
returns-clause-stays c = lock_stays

use Rattle.kotlin_flow.proofs.Runs.{no_end, not_reached}
use Rattle.kotlin_flow.proofs.laws.control_comes.Goals as goal

pub returns-clause-ends : goal.returns-clause-ends
returns-clause-ends c = no_end

pub returns-clause-reached : goal.returns-clause-reached
returns-clause-reached c = not_reached

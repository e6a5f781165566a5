use Rattle.java_flow.proofs.Runs.{not_reached, no_end}
use Rattle.java_flow.proofs.laws.control_comes.Goals as goal

pub returns-clause-reached : goal.returns-clause-reached
returns-clause-reached c = not_reached

pub returns-clause-ends : goal.returns-clause-ends
returns-clause-ends c = no_end

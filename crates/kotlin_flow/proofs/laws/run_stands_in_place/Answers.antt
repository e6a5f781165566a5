use Rattle.kotlin_flow.proofs.Runs.{run_ends, run_exits}
use Rattle.kotlin_flow.proofs.laws.run_stands_in_place.Goals as goal

pub returns-clause-ends : goal.returns-clause-ends
returns-clause-ends c = run_ends

pub returns-clause-exits : goal.returns-clause-exits
returns-clause-exits c = run_exits

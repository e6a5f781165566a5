use Rattle.kotlin_flow.proofs.Runs.{reads_assigned}
use Rattle.kotlin_flow.proofs.laws.reads_are_assigned.Goals as goal

pub returns : goal.returns
returns c = record { reads = reads_assigned }

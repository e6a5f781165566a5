use Rattle.java_flow.proofs.Runs.{reads_assigned}
use Rattle.java_flow.proofs.laws.reads_are_assigned.Goals as goal

pub returns : goal.returns
returns c = record { reads = reads_assigned }

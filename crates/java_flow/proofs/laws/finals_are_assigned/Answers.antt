use Rattle.java_flow.proofs.Runs.{exactly_once}
use Rattle.java_flow.proofs.laws.finals_are_assigned.Goals as goal

pub returns : goal.returns
returns c = record { exactly = exactly_once }

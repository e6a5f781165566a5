use Rattle.kotlin_flow.proofs.Runs.{at_the_end}
use Rattle.kotlin_flow.proofs.laws.assigned_at_the_end.Goals as goal

pub returns : goal.returns
returns c = record { assigned = at_the_end }

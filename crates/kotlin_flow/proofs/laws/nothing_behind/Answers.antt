use Rattle.kotlin_flow.proofs.Runs.{nothing_follows}
use Rattle.kotlin_flow.proofs.laws.nothing_behind.Goals as goal

pub returns : goal.returns
returns c = record { behind = nothing_follows }

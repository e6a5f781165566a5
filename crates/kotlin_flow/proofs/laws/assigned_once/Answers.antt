use Rattle.kotlin_flow.proofs.Runs.{once, never}
use Rattle.kotlin_flow.proofs.laws.assigned_once.Goals as goal

pub returns-clause-once : goal.returns-clause-once
returns-clause-once c = once

pub returns-clause-never : goal.returns-clause-never
returns-clause-never c = never

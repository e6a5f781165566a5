use Rattle.java_flow.proofs.Runs.{once, none_later}
use Rattle.java_flow.proofs.laws.assigned_once.Goals as goal

pub returns-clause-once : goal.returns-clause-once
returns-clause-once c = once

pub returns-clause-later : goal.returns-clause-later
returns-clause-later c = none_later

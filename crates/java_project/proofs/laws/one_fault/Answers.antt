use Rattle.java_project.proofs.Once.{apart, refused_once}
use Rattle.java_project.proofs.laws.one_fault.Goals as goal

pub returns-clause-once : goal.returns-clause-once
returns-clause-once c = refused_once

pub returns-clause-apart : goal.returns-clause-apart
returns-clause-apart c = apart

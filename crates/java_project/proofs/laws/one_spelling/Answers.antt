use Rattle.java_project.proofs.Once.{spelled_once, unit_paths}
use Rattle.java_project.proofs.laws.one_spelling.Goals as goal

pub returns-clause-once : goal.returns-clause-once
returns-clause-once c = spelled_once

pub returns-clause-paths : goal.returns-clause-paths
returns-clause-paths c = unit_paths

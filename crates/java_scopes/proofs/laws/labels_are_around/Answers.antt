use Rattle.java_scopes.proofs.Targets.{jump_has_target}
use Rattle.java_scopes.proofs.laws.labels_are_around.Goals as goal

pub returns : goal.returns
returns c = jump_has_target

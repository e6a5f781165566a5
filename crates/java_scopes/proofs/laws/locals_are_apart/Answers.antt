use Rattle.java_scopes.proofs.Effects.{are_apart}
use Rattle.java_scopes.proofs.laws.locals_are_apart.Goals as goal

pub returns : goal.returns
returns c = are_apart

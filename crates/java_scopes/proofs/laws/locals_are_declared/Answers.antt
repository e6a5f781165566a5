use Rattle.java_scopes.proofs.Effects.{declared_before}
use Rattle.java_scopes.proofs.laws.locals_are_declared.Goals as goal

pub returns : goal.returns
returns c = λ g xs name at inside. declared_before g xs (name, at) inside

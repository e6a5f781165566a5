use Rattle.java_name_meanings.proofs.Extents.{in_scope}
use Rattle.java_name_meanings.proofs.laws.locals_are_in_scope.Goals as goal

pub returns : goal.returns
returns c = λ g xs name at inside. in_scope g xs (name, at) inside

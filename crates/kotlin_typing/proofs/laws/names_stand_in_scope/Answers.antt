use Rattle.kotlin_typing.proofs.Premises.{name_told}
use Rattle.kotlin_typing.proofs.laws.names_stand_in_scope.Goals as goal

pub returns : goal.returns
returns c = name_told

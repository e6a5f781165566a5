use Rattle.kotlin_typing.proofs.Premises.{has_type, one_type}
use Rattle.kotlin_typing.proofs.laws.one_type.Goals as goal

pub returns-clause-has : goal.returns-clause-has
returns-clause-has c = has_type

pub returns-clause-one : goal.returns-clause-one
returns-clause-one c = one_type

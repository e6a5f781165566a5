use Rattle.kotlin_typing.proofs.Premises.{field_told, method_told}
use Rattle.kotlin_typing.proofs.laws.members_are_of_values.Goals as goal

pub returns-clause-properties : goal.returns-clause-properties
returns-clause-properties c = field_told

pub returns-clause-methods : goal.returns-clause-methods
returns-clause-methods c = method_told

use Rattle.kotlin_typing.proofs.Premises.{assign_told, local_placed, throw_placed}
use Rattle.kotlin_typing.proofs.laws.values_are_placed.Goals as goal

pub returns-clause-locals : goal.returns-clause-locals
returns-clause-locals c = local_placed

pub returns-clause-assigned : goal.returns-clause-assigned
returns-clause-assigned c = assign_told

pub returns-clause-thrown : goal.returns-clause-thrown
returns-clause-thrown c = throw_placed

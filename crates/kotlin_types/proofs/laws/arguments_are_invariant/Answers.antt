use Rattle.kotlin_types.proofs.Order.{subtype_invariant}
use Rattle.kotlin_types.proofs.laws.arguments_are_invariant.Goals as goal

pub returns : goal.returns
returns c = subtype_invariant

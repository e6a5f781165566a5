use Rattle.kotlin_types.proofs.Order.{nullable_below, subtype_nullable}
use Rattle.kotlin_types.proofs.laws.null_stays.Goals as goal

pub returns-clause-below : goal.returns-clause-below
returns-clause-below c = subtype_nullable

pub returns-clause-above : goal.returns-clause-above
returns-clause-above c = nullable_below

use Rattle.kotlin_types.proofs.Climbing.{below_subtype, subtype_below}
use Rattle.kotlin_types.proofs.laws.subtypes_stand_below.Goals as goal

pub returns-clause-told : goal.returns-clause-told
returns-clause-told c = subtype_below

pub returns-clause-found : goal.returns-clause-found
returns-clause-found c = below_subtype

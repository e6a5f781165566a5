use Rattle.kotlin_types.proofs.Order.{subtype_antisym, subtype_itself, subtype_trans}
use Rattle.kotlin_types.proofs.laws.subtyping_is_an_order.Goals as goal

pub returns-clause-reflexive : goal.returns-clause-reflexive
returns-clause-reflexive c = subtype_itself

pub returns-clause-transitive : goal.returns-clause-transitive
returns-clause-transitive c = subtype_trans

pub returns-clause-antisymmetric : goal.returns-clause-antisymmetric
returns-clause-antisymmetric c = subtype_antisym

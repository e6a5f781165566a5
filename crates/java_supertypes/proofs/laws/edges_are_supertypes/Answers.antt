use Rattle.java_supertypes.proofs.Edges.{to_above, from_above}
use Rattle.java_supertypes.proofs.laws.edges_are_supertypes.Goals as goal

pub returns : goal.returns
returns c = λ xs a b. (to_above xs a b, from_above xs a b)

use Rattle.meanings.proofs.SameValues.{same_is_equal}
use Rattle.meanings.proofs.laws.same_is_equal.Goals as goal

pub returns : goal.returns
returns c = same_is_equal

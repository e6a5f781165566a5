use Rattle.const_fold.proofs.Covered.{covered}
use Rattle.const_fold.proofs.laws.operators_are_covered.Goals as goal

pub returns : goal.returns
returns c = covered

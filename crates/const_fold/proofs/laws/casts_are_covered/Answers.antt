use Rattle.const_fold.proofs.Covered.{casts_covered}
use Rattle.const_fold.proofs.laws.casts_are_covered.Goals as goal

pub returns : goal.returns
returns c = casts_covered

use Rattle.const_fold.proofs.Covered.{one_value_lem}
use Rattle.const_fold.proofs.laws.one_value.Goals as goal

pub returns : goal.returns
returns c = one_value_lem

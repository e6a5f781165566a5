use Rattle.java_names.proofs.Once.{not_both}
use Rattle.java_names.proofs.laws.not_both.Goals as goal

pub returns : goal.returns
returns c = not_both

use Rattle.java_names.proofs.Once.{one_refusal}
use Rattle.java_names.proofs.laws.one_refusal.Goals as goal

pub returns : goal.returns
returns c = one_refusal

use Rattle.java_brackets.proofs.Promises.{one_first}
use Rattle.java_brackets.proofs.laws.one_first_flaw.Goals as goal

pub returns : goal.returns
returns c = one_first

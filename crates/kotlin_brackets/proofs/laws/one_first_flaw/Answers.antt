use Rattle.kotlin_brackets.proofs.Promises.{one_first}
use Rattle.kotlin_brackets.proofs.laws.one_first_flaw.Goals as goal

pub returns : goal.returns
returns c = one_first

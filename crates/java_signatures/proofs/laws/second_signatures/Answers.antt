use Rattle.java_signatures.proofs.Seconds.{to_second, from_second}
use Rattle.java_signatures.proofs.laws.second_signatures.Goals as goal

pub returns : goal.returns
returns c = λ unit xs f. (to_second unit xs f, from_second unit xs f)

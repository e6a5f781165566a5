use Rattle.kotlin_text_laws.proofs.Parentheses.{as_it_is}
use Rattle.kotlin_text_laws.proofs.laws.as_it_is.Goals as goal

pub returns : goal.returns
returns c = λ x p none. as_it_is x p none

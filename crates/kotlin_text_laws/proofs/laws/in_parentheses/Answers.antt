use Rattle.kotlin_text_laws.proofs.Parentheses.{in_parentheses}
use Rattle.kotlin_text_laws.proofs.laws.in_parentheses.Goals as goal

pub returns : goal.returns
returns c = λ x p some. in_parentheses x p some

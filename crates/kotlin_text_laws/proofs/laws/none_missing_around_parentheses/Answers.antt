use Rattle.kotlin_text_laws.proofs.Parentheses.{none_around}
use Rattle.kotlin_text_laws.proofs.laws.none_missing_around_parentheses.Goals as goal

pub returns : goal.returns
returns c = λ round x p within. none_around round x p within

use Rattle.kotlin_lexer.proofs.ExactValues.{exact}
use Rattle.kotlin_lexer.proofs.laws.exact_values.Goals as goal

pub returns : goal.returns
returns c = exact

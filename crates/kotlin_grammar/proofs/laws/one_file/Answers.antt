use Rattle.kotlin_grammar.proofs.Spelled.{one_file}
use Rattle.kotlin_grammar.proofs.laws.one_file.Goals as goal

pub returns : goal.returns
returns c = λ x y text. one_file x y text

use Rattle.java_statement_grammar.proofs.Theorem.{simple_one}
use Rattle.java_statement_grammar.proofs.laws.one_simple.Goals as goal

pub returns : goal.returns
returns c = simple_one

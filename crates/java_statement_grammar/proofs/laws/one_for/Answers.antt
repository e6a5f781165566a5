use Rattle.java_statement_grammar.proofs.Theorem.{for_one}
use Rattle.java_statement_grammar.proofs.laws.one_for.Goals as goal

pub returns : goal.returns
returns c = for_one

use Rattle.java_unit_grammar.proofs.Completeness.{statement_one}
use Rattle.java_unit_grammar.proofs.laws.one_statement.Goals as goal

pub returns : goal.returns
returns c = statement_one

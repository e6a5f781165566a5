use Rattle.java_statement_grammar.proofs.Theorem.{label_one}
use Rattle.java_statement_grammar.proofs.laws.one_label.Goals as goal

pub returns : goal.returns
returns c = label_one

use Rattle.java_expr_grammar.proofs.Theorem.{one}
use Rattle.java_expr_grammar.proofs.laws.one_tree.Goals as goal

pub returns : goal.returns
returns c = one

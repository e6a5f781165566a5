use Rattle.java_statement_grammar.proofs.Theorem.{lock_one}
use Rattle.java_statement_grammar.proofs.laws.one_lock.Goals as goal

pub returns : goal.returns
returns c = lock_one

use Rattle.java_fault_grammar.proofs.Balance.{none_left}
use Rattle.java_fault_grammar.proofs.laws.closed.Goals as goal

pub returns : goal.returns
returns c = none_left

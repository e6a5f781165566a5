use Rattle.java_fault_grammar.proofs.Faults.{one, none}
use Rattle.java_fault_grammar.proofs.laws.one_fault.Goals as goal

pub returns : goal.returns
returns c = record { one = one; none = none }

use Rattle.kotlin_spelling.proofs.Once.{one_fault, no_fault}
use Rattle.kotlin_spelling.proofs.laws.one_fault.Goals as goal

pub returns-clause-once : goal.returns-clause-once
returns-clause-once c = one_fault

pub returns-clause-apart : goal.returns-clause-apart
returns-clause-apart c = no_fault

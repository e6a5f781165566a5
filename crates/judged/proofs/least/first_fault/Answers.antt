use Rattle.judged.proofs.First.{first_is, none_is}
use Rattle.judged.proofs.least.first_fault.Goals as goal

pub returns-clause-first : goal.returns-clause-first
returns-clause-first g c = first_is c.args.notes.now c.least.result c.least.ensures

pub returns-clause-none : goal.returns-clause-none
returns-clause-none g c = none_is c.args.notes.now c.least.result c.least.ensures

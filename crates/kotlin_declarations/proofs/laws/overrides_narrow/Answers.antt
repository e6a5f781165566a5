use Rattle.kotlin_declarations.proofs.Told.{none_told, overrides_told}
use Rattle.kotlin_declarations.proofs.laws.overrides_narrow.Goals as goal

pub returns-clause-all : goal.returns-clause-all
returns-clause-all c = overrides_told

pub returns-clause-none : goal.returns-clause-none
returns-clause-none c = none_told

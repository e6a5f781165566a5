use Rattle.kotlin_declarations.proofs.Told.{cycle_told}
use Rattle.kotlin_declarations.proofs.laws.no_class_is_above_itself.Goals as goal

pub returns : goal.returns
returns c = cycle_told

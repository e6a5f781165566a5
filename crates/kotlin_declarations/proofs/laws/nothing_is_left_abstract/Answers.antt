use Rattle.kotlin_declarations.proofs.Told.{open_told}
use Rattle.kotlin_declarations.proofs.laws.nothing_is_left_abstract.Goals as goal

pub returns : goal.returns
returns c = open_told

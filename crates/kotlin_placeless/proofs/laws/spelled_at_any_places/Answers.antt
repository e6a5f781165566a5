use Rattle.kotlin_placeless.proofs.Lifted.{file_lifted}
use Rattle.kotlin_placeless.proofs.laws.spelled_at_any_places.Goals as goal

pub returns : goal.returns
returns c = λ x ts has. file_lifted x ts has

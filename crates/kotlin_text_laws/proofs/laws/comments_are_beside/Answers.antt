use Rattle.kotlin_text_laws.proofs.Beside.{file_beside}
use Rattle.kotlin_text_laws.proofs.laws.comments_are_beside.Goals as goal

pub returns : goal.returns
returns c = λ x. file_beside x

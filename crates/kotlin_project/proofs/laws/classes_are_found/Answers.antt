use Rattle.kotlin_project.proofs.Found.{head_found}
use Rattle.kotlin_project.proofs.laws.classes_are_found.Goals as goal

pub returns : goal.returns
returns c = head_found

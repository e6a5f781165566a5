use Rattle.kotlin_project.proofs.Apart.{apart}
use Rattle.kotlin_project.proofs.laws.no_two_have_one_name.Goals as goal

pub returns : goal.returns
returns c = apart

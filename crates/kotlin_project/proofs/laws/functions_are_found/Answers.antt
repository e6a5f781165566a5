use Rattle.kotlin_project.proofs.Found.{function_found}
use Rattle.kotlin_project.proofs.laws.functions_are_found.Goals as goal

pub returns : goal.returns
returns c = function_found

use Rattle.kotlin_project.proofs.Found.{declared_found, found_told}
use Rattle.kotlin_project.proofs.laws.names_are_found.Goals as goal

pub returns-clause-found : goal.returns-clause-found
returns-clause-found c = declared_found

pub returns-clause-declared : goal.returns-clause-declared
returns-clause-declared c = found_told

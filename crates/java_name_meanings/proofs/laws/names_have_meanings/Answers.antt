use Rattle.java_name_meanings.proofs.Outcomes.{all_meant}
use Rattle.java_name_meanings.proofs.laws.names_have_meanings.Goals as goal
use Rattle.java_scopes.specs.Scopes.{first}

pub returns : goal.returns
returns c = λ g xs h. all_meant g first xs h

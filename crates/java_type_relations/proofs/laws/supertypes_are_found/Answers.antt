use Rattle.java_type_relations.proofs.Found.{is_found, is_it}
use Rattle.java_type_relations.proofs.laws.supertypes_are_found.Goals as goal

pub returns-clause-found : goal.returns-clause-found
returns-clause-found c = is_found

pub returns-clause-exact : goal.returns-clause-exact
returns-clause-exact c = is_it

use Rattle.java_scopes.specs.Scopes.{first, run}
use Rattle.java_name_meanings.proofs.Extents.{one_place, scope_is_found}
use Rattle.java_name_meanings.proofs.Outcomes.{all_meant}
use Rattle.java_name_meanings.proofs.laws.scopes_are_found.Goals as goal

pub returns-clause-found : goal.returns-clause-found
returns-clause-found c = λ g xs name at none h. scope_is_found g xs name at (all_meant g first xs none) h

pub returns-clause-one : goal.returns-clause-one
returns-clause-one c =
    λ g xs name at other none h k.
    one_place name at other (run g first xs).locals (c.locals_are_apart.ensures g xs) (scope_is_found g xs name at (all_meant g first xs none) h)
    (scope_is_found g xs name other (all_meant g first xs none) k)

-- Where the classes of a project stand.
use Rattle.std.specs.Prelude.{ℕ, ◌+◌, List, [], ◌∷◌, ◌++◌}
use Rattle.java_unit_grammar.specs.declared.statements.JBody.{JBody}
use Rattle.java_unit_grammar.specs.declared.statements.JCase.{JCase}
use Rattle.java_unit_grammar.specs.declared.statements.JCaseGroup.{JCaseGroup}
use Rattle.java_unit_grammar.specs.declared.statements.JCatch.{JCatch}
use Rattle.java_unit_grammar.specs.declared.statements.JMember.{JMember, out-JMember}
use Rattle.java_unit_grammar.specs.declared.statements.JStatement.{JStatement}
use Rattle.java_unit_grammar.specs.declared.statements.JBody.TheOpen.{JMember-F}
use Rattle.java_unit_grammar.specs.declared.units.JUnit.{JUnit}
use Rattle.java_class_names.specs.declared.places.ClassPlace.{ClassPlace}

module _ (unit top : ℕ) where
  abbrev pub place_by : JMember-F JBody JMember JStatement JCase JCaseGroup JCatch → List ClassPlace
  place_by (JMember-F.Type head left constants bodies members right) = record { unit = unit; top = top } ∷ []
  place_by _ = []

  unfoldable pub place_in : JMember → List ClassPlace
  place_in x = place_by (out-JMember x)

-- of what a file declares, from a number on
abbrev pub places_from : ℕ → ℕ → List JMember → List ClassPlace
places_from unit top [] = []
places_from unit top (x ∷ xs) = place_in unit top x ++ places_from unit (top + 1) xs

-- of files from a number on
abbrev pub units_from : ℕ → List JUnit → List ClassPlace
units_from unit [] = []
units_from unit (x ∷ xs) = places_from unit 0 x.types ++ units_from (unit + 1) xs

-- of each class of the project, by its number
abbrev pub class_places : List JUnit → List ClassPlace
class_places units = units_from 0 units

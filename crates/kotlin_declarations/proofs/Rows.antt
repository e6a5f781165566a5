-- Worked rows: members with their first fault or none.
use Rattle.std.proofs.Common.{◌≡◌, ℕ, List, [], ◌∷◌, Option, Some, None, refl}
use Rattle.std.specs.Prelude.{codes}
use Rattle.kotlin_tree.specs.declared.places.Position.{Position}
use Rattle.kotlin_tree.specs.declared.places.Brackets.{Brackets}
use Rattle.kotlin_tree.specs.declared.types.KName.{KName}
use Rattle.kotlin_tree.specs.declared.types.KType.{KType}
use Rattle.kotlin_tree.specs.declared.statements.KVariability.{KVariability}
use Rattle.kotlin_tree.specs.declared.statements.KVariability.TheVariants as word
use Rattle.kotlin_tree.specs.declared.members.KModifier.{KModifier}
use Rattle.kotlin_tree.specs.declared.members.KModifierKind.{KModifierKind}
use Rattle.kotlin_tree.specs.declared.members.KModifierKind.TheVariants as modifier
use Rattle.kotlin_tree.specs.declared.members.KParam.{KParam}
use Rattle.kotlin_tree.specs.declared.members.KMember.TheOpen.{KMember-F}
use Rattle.kotlin_tree.specs.declared.files.KClassWord.TheVariants as sort
use Rattle.kotlin_flow.specs.Members.{Bare}
use Rattle.kotlin_typing.specs.Notes.{noted}
use Rattle.kotlin_declarations.specs.Accessors.{accessor_notes, getter}
use Rattle.kotlin_declarations.specs.Classes.{word_notes}

abbrev at : ℕ → Position
at n = record { offset = n; line = 1; column = n }

abbrev between : Brackets
between = record { opens = at 0; closes = at 0 }

abbrev called : List ℕ → ℕ → KName
called name n = record { name = name; at = at n }

abbrev modified : KModifierKind → List KModifier
modified k = record { kind = k; at = at 0 } ∷ []

module _ (int : KType) where
  -- `var total: Int`
  abbrev total : List KModifier → KVariability → Bare
  total modifiers w = KMember-F.Property modifiers (record { word = w; at = at 1; name = called (codes "total") 2; colon = at 3; kind = int }) None None

  -- `fun getTotal(..)` and the like, of so many parameters
  abbrev function : List ℕ → List KParam → Bare
  function name params = KMember-F.Function [] (at 4) (called name 5) (record { round = between; items = params; commas = [] }) None None

  abbrev k : KParam
  k = record { name = called (codes "k") 6; colon = at 6; kind = int }

  -- a function with the name of a getter
  getter_twice : accessor_notes [] (at 0) [] (total [] word.Val ∷ function (codes "getTotal") [] ∷ []) ≡ noted [] 14 (at 5)
  getter_twice = refl

  -- with a parameter it is another method
  with_a_parameter : accessor_notes [] (at 0) [] (total [] word.Val ∷ function (codes "getTotal") (k ∷ []) ∷ []) ≡ []
  with_a_parameter = refl

  -- a setter has one parameter, and a `val` none
  setter_twice : accessor_notes [] (at 0) [] (total [] word.Var ∷ function (codes "setTotal") (k ∷ []) ∷ []) ≡ noted [] 14 (at 5)
  setter_twice = refl

  no_setter : accessor_notes [] (at 0) [] (total [] word.Val ∷ function (codes "setTotal") (k ∷ []) ∷ []) ≡ []
  no_setter = refl

  -- what is private has no accessor
  is_private : accessor_notes [] (at 0) [] (total (modified modifier.Private) word.Val ∷ function (codes "getTotal") [] ∷ []) ≡ []
  is_private = refl

  -- a getter that is inherited
  getter_above : accessor_notes [] (at 0) (getter (codes "total") ∷ []) (function (codes "getTotal") [] ∷ []) ≡ noted [] 14 (at 5)
  getter_above = refl

-- there is no `fun class`, and a `fun interface` has one abstract function
fun_class : word_notes [] (at 1) (sort.FunClass (at 0)) 1 ≡ noted [] 8 (at 1)
fun_class = refl

fun_interface : word_notes [] (at 1) (sort.FunInterface (at 0)) 1 ≡ []
fun_interface = refl

two_functions : word_notes [] (at 1) (sort.FunInterface (at 0)) 2 ≡ noted [] 8 (at 1)
two_functions = refl

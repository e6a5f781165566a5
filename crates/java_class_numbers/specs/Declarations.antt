-- The classes at the top of a project's files, in the order of the files and of the text (JLS 7.3, 7.6).
use Rattle.std.specs.Prelude.{◌≡◌, ℕ, ◌+◌, List, [], ◌∷◌, ◌++◌, Option, Some, slice_get}
use Rattle.java_tree.specs.declared.tokens.Position.{Position}
use Rattle.java_member_grammar.specs.declared.lines.JConstants.{JConstants}
use Rattle.java_member_grammar.specs.declared.heads.JTypeHead.{JTypeHead}
use Rattle.java_unit_grammar.specs.declared.statements.JBody.{JBody}
use Rattle.java_unit_grammar.specs.declared.statements.JCase.{JCase}
use Rattle.java_unit_grammar.specs.declared.statements.JCaseGroup.{JCaseGroup}
use Rattle.java_unit_grammar.specs.declared.statements.JCatch.{JCatch}
use Rattle.java_unit_grammar.specs.declared.statements.JMember.{JMember, out-JMember}
use Rattle.java_unit_grammar.specs.declared.statements.JStatement.{JStatement}
use Rattle.java_unit_grammar.specs.declared.statements.JBody.TheOpen.{JMember-F}
use Rattle.java_unit_grammar.specs.declared.units.JUnit.{JUnit}

-- the number of a file, the file, the place of a class among what it declares, and the head and the members of the class
pub record Declaration : Type 0 where
  pub number : ℕ
  pub file : JUnit
  pub top : ℕ
  pub head : JTypeHead
  pub members : List JMember

module _ (number : ℕ) (file : JUnit) where
  abbrev pub declared_by : ℕ → JMember-F JBody JMember JStatement JCase JCaseGroup JCatch → List Declaration
  declared_by top (JMember-F.Type head left constants bodies members right) =
      record { number = number; file = file; top = top; head = head; members = members } ∷ []
  declared_by top _ = []

  unfoldable pub declared_in : ℕ → JMember → List Declaration
  declared_in top x = declared_by top (out-JMember x)

  -- of what the file declares, from a place on
  abbrev pub declared_from : ℕ → List JMember → List Declaration
  declared_from top [] = []
  declared_from top (x ∷ xs) = declared_in top x ++ declared_from (top + 1) xs

-- of files from a number on
abbrev pub files_from : ℕ → List JUnit → List Declaration
files_from number [] = []
files_from number (x ∷ xs) = declared_from number x 0 x.types ++ files_from (number + 1) xs

abbrev pub declarations : List JUnit → List Declaration
declarations units = files_from 0 units

-- ---- where a declaration stands

-- what is declared is a type of this head and with these members (JLS 7.6)
pub record IsType (x : JMember) (head : JTypeHead) (members : List JMember) : Type 0 where
  pub left : Position
  pub constants : Option JConstants
  pub bodies : List JBody
  pub right : Position
  pub is : out-JMember x ≡ JMember-F.Type head left constants bodies members right

-- its file has its number among the files, and its type its place in the file
pub record StandsIn (units : List JUnit) (x : Declaration) : Type 0 where
  pub declared : JMember
  pub file : slice_get units x.number ≡ Some x.file
  pub place : slice_get x.file.types x.top ≡ Some declared
  pub is : IsType declared x.head x.members

-- The classes and the packages that a project declares.
use Rattle.std.specs.Prelude.{ℕ, ◌+◌, Bool, true, false, ◌||◌, nat_eq, List, [], ◌∷◌, ◌++◌, map, Option, Some, None, codes}
use Rattle.std.specs.Str.{bytes_eq}
use Rattle.std.specs.List.{ends_with, starts_with, list_any}
use Rattle.java_tree.specs.declared.tokens.Position.{Position}
use Rattle.java_tree.specs.declared.types.JDotted.{JDotted}
use Rattle.java_tree.specs.declared.types.JQualified.{JQualified}
use Rattle.java_member_grammar.specs.declared.modifiers.JModifier.{JModifier}
use Rattle.java_member_grammar.specs.declared.modifiers.ModifierKind.{ModifierKind}
use Rattle.java_member_grammar.specs.declared.modifiers.ModifierKind.TheVariants as modifier
use Rattle.java_member_grammar.specs.declared.heads.JTypeHead.{JTypeHead}
use Rattle.java_member_grammar.specs.declared.heads.JTypeHead.TheVariants as kind
use Rattle.java_member_grammar.specs.declared.lines.JPackage.{JPackage}
use Rattle.java_unit_grammar.specs.declared.statements.JBody.{JBody}
use Rattle.java_unit_grammar.specs.declared.statements.JCase.{JCase}
use Rattle.java_unit_grammar.specs.declared.statements.JCaseGroup.{JCaseGroup}
use Rattle.java_unit_grammar.specs.declared.statements.JCatch.{JCatch}
use Rattle.java_unit_grammar.specs.declared.statements.JMember.{JMember, out-JMember}
use Rattle.java_unit_grammar.specs.declared.statements.JStatement.{JStatement}
use Rattle.java_unit_grammar.specs.declared.statements.JBody.TheOpen.{JMember-F}
use Rattle.java_unit_grammar.specs.declared.units.JUnit.{JUnit}
use Rattle.java_classes.specs.declared.rows.ClassRow.{ClassRow}

-- ---- packages (JLS 7.4)

abbrev pub behind : List JDotted → List ℕ
behind [] = []
behind (x ∷ xs) = (codes "." ++ x.name) ++ behind xs

-- a name with its dots
abbrev pub dotted : JQualified → List ℕ
dotted x = x.name ++ behind x.rest

-- of the unnamed package an empty name
abbrev pub package_name : Option JPackage → List ℕ
package_name None = []
package_name (Some x) = dotted x.name

-- the packages of the library's classes
abbrev pub library_packages : List (List ℕ)
library_packages = codes "java.lang" ∷ codes "java.util" ∷ codes "java.io" ∷ []

abbrev pub unit_package : JUnit → List ℕ
unit_package x = package_name x.package

abbrev pub packages : List JUnit → List (List ℕ)
packages units = library_packages ++ map unit_package units

-- a declared package is it or stands in it (JLS 7.1, 7.4.3)
abbrev pub is_in : List ℕ → List ℕ → Bool
is_in name declared = bytes_eq declared name || starts_with nat_eq declared (name ++ codes ".")

abbrev pub is_package : List (List ℕ) → List ℕ → Bool
is_package declared name = list_any (is_in name) declared

-- ---- classes (JLS 7.6)

abbrev pub is_public_by : ModifierKind → Bool
is_public_by modifier.Public = true
is_public_by _ = false

abbrev pub has_public : List JModifier → Bool
has_public mods = list_any (λ x. is_public_by x.kind) mods

-- the file is named as the class, which has no slash (own rule where JLS 7.6 leaves it open)
abbrev pub is_file_of : List ℕ → List ℕ → Bool
is_file_of path name = bytes_eq path (name ++ codes ".java") || ends_with nat_eq path (codes "/" ++ (name ++ codes ".java"))

-- The number, the path and the package of a file.
module _ (unit : ℕ) (path home : List ℕ) where
  abbrev pub row : List JModifier → List ℕ → Position → ClassRow
  row mods name at = record { unit = unit; home = home; name = name; at = at; is_public = has_public mods; has_file = is_file_of path name }

  abbrev pub headed : JTypeHead → ClassRow
  headed (kind.Class mods class name at params extends implements) = row mods name at
  headed (kind.Interface mods interface name at params extends) = row mods name at
  headed (kind.Enum mods enum name at implements) = row mods name at

  abbrev pub rows_by : JMember-F JBody JMember JStatement JCase JCaseGroup JCatch → List ClassRow
  rows_by (JMember-F.Type head left constants bodies members right) = headed head ∷ []
  rows_by _ = []

  unfoldable pub type_rows : JMember → List ClassRow
  type_rows x = rows_by (out-JMember x)

  abbrev pub each_rows : List JMember → List ClassRow
  each_rows [] = []
  each_rows (x ∷ xs) = type_rows x ++ each_rows xs

abbrev pub unit_rows : ℕ → JUnit → List ClassRow
unit_rows unit x = each_rows unit x.path (package_name x.package) x.types

-- of files from a number on
abbrev pub rows_from : ℕ → List JUnit → List ClassRow
rows_from unit [] = []
rows_from unit (x ∷ xs) = unit_rows unit x ++ rows_from (unit + 1) xs

abbrev pub class_rows : List JUnit → List ClassRow
class_rows units = rows_from 0 units

-- The classes that have members: those of the project by their numbers, and behind them those of the library.
use Rattle.std.specs.Prelude.{ℕ, ◌+◌, Bool, true, false, List, [], ◌∷◌, ◌++◌, map, length, Option, Some, None, slice_get}
use Rattle.java_member_grammar.specs.declared.heads.JTypeHead.{JTypeHead}
use Rattle.java_member_grammar.specs.declared.heads.JTypeHead.TheVariants as head
use Rattle.java_unit_grammar.specs.declared.statements.JBody.{JBody}
use Rattle.java_unit_grammar.specs.declared.statements.JCase.{JCase}
use Rattle.java_unit_grammar.specs.declared.statements.JCaseGroup.{JCaseGroup}
use Rattle.java_unit_grammar.specs.declared.statements.JCatch.{JCatch}
use Rattle.java_unit_grammar.specs.declared.statements.JMember.{JMember, out-JMember}
use Rattle.java_unit_grammar.specs.declared.statements.JStatement.{JStatement}
use Rattle.java_unit_grammar.specs.declared.statements.JBody.TheOpen.{JMember-F}
use Rattle.java_unit_grammar.specs.declared.units.JUnit.{JUnit}
use Rattle.java_classes.specs.Classes.{package_name}
use Rattle.java_type_names.specs.declared.classes.Meant.{Meant}
use Rattle.java_type_names.specs.declared.classes.Meant.TheVariants as m
use Rattle.java_supertypes.specs.declared.heads.Heading.{Heading}
use Rattle.java_members.specs.declared.classes.Class.{Class}
use Rattle.java_member_tables.specs.Members.{fields, methods}
use Rattle.java_member_tables.specs.Library.{library_classes}

-- the place of a class in the table, of a project of so many classes
abbrev pub number_of : ℕ → Meant → ℕ
number_of count (m.Project number) = number
number_of count (m.Library number) = count + number

abbrev pub is_interface : JTypeHead → Bool
is_interface (head.Interface mods at name name_at params list) = true
is_interface _ = false

abbrev pub above_in : Option Heading → List Meant
above_in None = []
above_in (Some x) = x.above

-- of a project whose classes have these headings
module _ (headings : List Heading) where
  abbrev pub class : ℕ → List ℕ → Bool → List JMember → Class
  class number home is_interface xs =
      record {
        home = home;
        is_interface = is_interface;
        above = map (number_of (length headings)) (above_in (slice_get headings number));
        fields = fields is_interface xs;
        methods = methods is_interface xs;
      }

  abbrev pub with_by : List ℕ → List Class → JMember-F JBody JMember JStatement JCase JCaseGroup JCatch → List Class
  with_by home table (JMember-F.Type head left constants bodies members right) = table ++ class (length table) home (is_interface head) members ∷ []
  with_by home table _ = table

  unfoldable pub with_type : List ℕ → List Class → JMember → List Class
  with_type home table x = with_by home table (out-JMember x)

  abbrev pub with_types : List ℕ → List Class → List JMember → List Class
  with_types home table [] = table
  with_types home table (x ∷ xs) = with_types home (with_type home table x) xs

  abbrev pub with_units : List Class → List JUnit → List Class
  with_units table [] = table
  with_units table (x ∷ xs) = with_units (with_types (package_name x.package) table x.types) xs

  abbrev pub class_table : List JUnit → List Class
  class_table units = with_units [] units ++ library_classes (length headings)

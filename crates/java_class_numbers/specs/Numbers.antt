-- What each table tells of a class, and the number that they share.
use Rattle.std.specs.Prelude.{◌≡◌, ℕ, List, Some, slice_get}
use Rattle.java_unit_grammar.specs.declared.units.JUnit.{JUnit}
use Rattle.java_classes.specs.declared.rows.ClassRow.{ClassRow}
use Rattle.java_classes.specs.Classes.{class_rows, headed, package_name}
use Rattle.java_class_names.specs.declared.places.ClassPlace.{ClassPlace}
use Rattle.java_class_names.specs.Places.{class_places}
use Rattle.java_type_names.specs.declared.classes.World.{World}
use Rattle.java_type_names.specs.declared.scopes.FileScope.{FileScope}
use Rattle.java_type_names.specs.Imports.{file_scope}
use Rattle.java_supertypes.specs.declared.heads.Heading.{Heading}
use Rattle.java_supertypes.specs.Supertypes.{heading, headings}
use Rattle.java_members.specs.declared.classes.Class.{Class}
use Rattle.java_member_tables.specs.Tables.{class, class_table, is_interface}
use Rattle.java_class_numbers.specs.Declarations.{Declaration, StandsIn}

-- the class's row: its file, its package, its name (JLS 7.4, 7.6)
abbrev pub row_of : Declaration → ClassRow
row_of x = headed x.number x.file.path (package_name x.file.package) x.head

abbrev pub place_of : Declaration → ClassPlace
place_of x = record { unit = x.number; top = x.top }

-- its head, in the scope of its file (JLS 6.3, 8.1.4, 8.1.5, 9.1.3)
abbrev pub heading_of : World → Declaration → Heading
heading_of world x = heading world (file_scope world x.number x.file) x.head

-- the members of a class that has a number, in a project whose classes have these headings (JLS 8.2, 9.2)
abbrev pub class_of : List Heading → ℕ × Declaration → Class
class_of headings x = class headings x.0 (package_name x.1.file.package) (is_interface x.1.head) x.1.members

-- the scope at each number is that of the file of the number
pub record AreScopes (world : World) (scopes : List FileScope) (units : List JUnit) : Type 0 where
  pub each : (number : ℕ) (file : JUnit) → slice_get units number ≡ Some file → slice_get scopes number ≡ Some (file_scope world number file)

-- under a number each table tells of one declaration
pub record IsClass (world : World) (scopes : List FileScope) (units : List JUnit) (number : ℕ) (x : Declaration) : Type 0 where
  pub stands : StandsIn units x
  pub row : slice_get (class_rows units) number ≡ Some (row_of x)
  pub place : slice_get (class_places units) number ≡ Some (place_of x)
  pub heading : slice_get (headings world scopes units) number ≡ Some (heading_of world x)
  pub members : slice_get (class_table (headings world scopes units) units) number ≡ Some (class_of (headings world scopes units) (number, x))

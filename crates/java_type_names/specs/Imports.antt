-- The imports of a file (JLS 7.5).
use Rattle.std.specs.Prelude.{ℕ, ◌+◌, Bool, false, ◌&&◌, ◌||◌, not, nat_eq, if◌then◌else◌, List, [], ◌∷◌, ◌++◌, Option, Some, None, codes}
use Rattle.std.specs.Str.{bytes_eq}
use Rattle.java_tree.specs.declared.tokens.Position.{Position}
use Rattle.java_tree.specs.declared.types.JDotted.{JDotted}
use Rattle.java_tree.specs.declared.types.JQualified.{JQualified}
use Rattle.java_member_grammar.specs.declared.lines.JImport.{JImport}
use Rattle.java_member_grammar.specs.declared.lines.JStar.{JStar}
use Rattle.java_unit_grammar.specs.declared.units.JUnit.{JUnit}
use Rattle.java_classes.specs.declared.rows.ClassRow.{ClassRow}
use Rattle.java_classes.specs.declared.faults.NameFault.{NameFault}
use Rattle.java_classes.specs.Classes.{dotted, package_name}
use Rattle.java_classes.specs.Faults.{fault_if}
use Rattle.java_type_names.specs.declared.classes.Meant.{Meant}
use Rattle.java_type_names.specs.declared.classes.Meant.TheVariants as m
use Rattle.java_type_names.specs.declared.classes.World.{World}
use Rattle.java_type_names.specs.declared.scopes.FileScope.{FileScope}
use Rattle.java_type_names.specs.declared.places.Place.{Place}
use Rattle.java_type_names.specs.declared.places.Place.TheVariants as p
use Rattle.java_type_names.specs.Scopes.{is_same, single}
use Rattle.java_type_names.specs.Places.{next_part, package_or_lost}

-- the text before the rest of a name means the place
abbrev pub walked : World → List ℕ → List ℕ → Place → List JDotted → Place
walked world from text place [] = place
walked world from text place (x ∷ xs) = walked world from ((text ++ codes ".") ++ x.name) (next_part world from text place x.name x.at) xs

-- The name of an import is a canonical one, so it begins with a package (JLS 6.7, 7.5.1).
abbrev pub import_place : World → List ℕ → JQualified → Place
import_place world from x = walked world from x.name (package_or_lost world x.name x.at) x.rest

abbrev pub last_from : List ℕ → Position → List JDotted → List ℕ × Position
last_from name at [] = (name, at)
last_from name at (x ∷ xs) = last_from x.name x.at xs

abbrev pub last : JQualified → List ℕ × Position
last x = last_from x.name x.at x.rest

abbrev pub is_other : Option Meant → Meant → Bool
is_other None class = false
is_other (Some known) class = not (is_same known class)

abbrev pub own_from : ℕ → List ℕ → ℕ → List ClassRow → Option Meant
own_from unit name number [] = None
own_from unit name number (row ∷ rows) =
    if nat_eq row.unit unit && bytes_eq row.name name then Some (m.Project number) else own_from unit name (number + 1) rows

-- the first class of a file by its name
abbrev pub own_class : List ClassRow → ℕ → List ℕ → Option Meant
own_class rows unit name = own_from unit name 0 rows

-- the same, by its number: a helper, which no promise names
abbrev pub of_project : Option ℕ → Option Meant
of_project None = None
of_project (Some number) = Some (m.Project number)

abbrev pub with_single : FileScope → List ℕ → Meant → FileScope
with_single scope name class = record scope { singles = scope.singles ++ record { name = name; class = class } ∷ [] }

abbrev pub with_demand : FileScope → List ℕ → FileScope
with_demand scope name = record scope { demands = scope.demands ++ name ∷ [] }

-- a class has no members to import, since none has member types (JLS 7.5.2)
abbrev pub demand_faults : ℕ → Place → List NameFault
demand_faults unit (p.Lost lost) = record { unit = unit; at = lost; number = 1 } ∷ []
demand_faults unit (p.Ambiguous lost) = record { unit = unit; at = lost; number = 4 } ∷ []
demand_faults unit _ = []

abbrev pub demand_scope : FileScope → List ℕ → Place → FileScope
demand_scope scope name p.Package = with_demand scope name
demand_scope scope name _ = scope

abbrev pub single_scope : FileScope → List ℕ → Place → FileScope
single_scope scope name (p.Class class) = with_single scope name class
single_scope scope name _ = scope

module _ (world : World) (unit : ℕ) where
  -- another class of the simple name is imported by it, or declared in the file (JLS 7.5.1)
  abbrev pub clashes : FileScope → List ℕ → Meant → Bool
  clashes scope name class = is_other (single name scope.singles) class || is_other (own_class world.rows unit name) class

  abbrev pub single_faults : FileScope → List ℕ → Position → Place → List NameFault
  single_faults scope name at (p.Class class) = fault_if (clashes scope name class) unit at 2
  single_faults scope name at p.Package = record { unit = unit; at = at; number = 1 } ∷ []
  single_faults scope name at (p.Lost lost) = record { unit = unit; at = lost; number = 1 } ∷ []
  single_faults scope name at (p.Ambiguous lost) = record { unit = unit; at = lost; number = 4 } ∷ []

  abbrev pub import_faults : FileScope → Option JStar → JQualified → List NameFault
  import_faults scope None x = single_faults scope (last x).0 (last x).1 (import_place world scope.home x)
  import_faults scope (Some star) x = demand_faults unit (import_place world scope.home x)

  abbrev pub import_scope : FileScope → Option JStar → JQualified → FileScope
  import_scope scope None x = single_scope scope (last x).0 (import_place world scope.home x)
  import_scope scope (Some star) x = demand_scope scope (dotted x) (import_place world scope.home x)

  abbrev pub scope_from : FileScope → List JImport → FileScope
  scope_from scope [] = scope
  scope_from scope (x ∷ xs) = scope_from (import_scope scope x.star x.name) xs

  abbrev pub faults_from : FileScope → List JImport → List NameFault
  faults_from scope [] = []
  faults_from scope (x ∷ xs) = import_faults scope x.star x.name ++ faults_from (import_scope scope x.star x.name) xs

-- what `java.lang` declares is imported on demand by every file (JLS 7.3)
abbrev pub first_scope : JUnit → FileScope
first_scope x = record { home = package_name x.package; singles = []; demands = codes "java.lang" ∷ [] }

abbrev pub file_scope : World → ℕ → JUnit → FileScope
file_scope world unit x = scope_from world unit (first_scope x) x.imports

abbrev pub file_faults : World → ℕ → JUnit → List NameFault
file_faults world unit x = faults_from world unit (first_scope x) x.imports

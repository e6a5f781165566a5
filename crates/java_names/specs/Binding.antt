-- Which projects are bound: those whose names have no fault.
use Rattle.std.specs.Prelude.{◌≡◌, ℕ, ◌+◌, List, [], ◌∷◌, ◌++◌, Some}
use Rattle.j2k_base.specs.declared.places.Fault.{Fault}
use Rattle.j2k_base.specs.declared.places.Stop.{Stop}
use Rattle.j2k_base.specs.declared.places.Stop.TheVariants as stop
use Rattle.judged.specs.declared.notes.Note.{Note}
use Rattle.judged.specs.Notes.{IsFirst, faults_in, first_fault}
use Rattle.java_unit_grammar.specs.declared.units.JUnit.{JUnit}
use Rattle.java_classes.specs.declared.faults.NameFault.{NameFault}
use Rattle.java_classes.specs.Classes as c
use Rattle.java_classes.specs.Faults as faults
use Rattle.java_type_names.specs.declared.classes.World.{World}
use Rattle.java_type_names.specs.declared.scopes.FileScope.{FileScope}
use Rattle.java_type_names.specs.Imports as imports
use Rattle.java_supertypes.specs.declared.heads.Heading.{Heading}
use Rattle.java_supertypes.specs.Supertypes.{class_edges, cycle_faults, headings}
use Rattle.java_head_names.specs.Heads as heads
use Rattle.java_member_tables.specs.Tables.{class_table}
use Rattle.java_class_names.specs.Names as names
use Rattle.java_class_names.specs.Places.{class_places}
use Rattle.java_entries.specs.Entries.{entry_notes}
use Rattle.java_name_faults.specs.declared.notes.Later.{Later}
use Rattle.java_name_faults.specs.Notes.{notes}
use Rattle.java_names.specs.declared.facts.Facts.{Facts}

-- ---- what the names of a project's classes tell

abbrev pub world : List JUnit → World
world units = record { rows = c.class_rows units; packages = c.packages units }

module _ (world : World) where
  -- of files from a number on
  abbrev pub scopes_from : ℕ → List JUnit → List FileScope
  scopes_from unit [] = []
  scopes_from unit (x ∷ xs) = imports.file_scope world unit x ∷ scopes_from (unit + 1) xs

  abbrev pub import_faults : ℕ → List JUnit → List NameFault
  import_faults unit [] = []
  import_faults unit (x ∷ xs) = imports.file_faults world unit x ++ import_faults (unit + 1) xs

abbrev pub scopes : List JUnit → List FileScope
scopes units = scopes_from (world units) 0 units

abbrev pub headings_of : List JUnit → List Heading
headings_of units = headings (world units) (scopes units) units

-- the classes and packages, the scopes of the files, the headings of the project's classes, the members of all classes, and where the
-- project's classes stand
abbrev pub facts : List JUnit → Facts
facts units =
    record {
      world = world units;
      scopes = scopes units;
      headings = headings_of units;
      table = class_table (headings_of units) units;
      places = class_places units;
    }

-- ---- faults

abbrev pub class_faults : Facts → List NameFault
class_faults x = faults.class_faults x.world.packages x.world.rows ++ cycle_faults (class_edges x.headings) x.world.rows

abbrev pub member_faults : Facts → List JUnit → List NameFault
member_faults x units = heads.head_faults x.world x.scopes units ++ names.class_faults x.world x.scopes x.headings x.table units x.places

-- of the names of classes and their cycles, of imports, and of the names in classes
abbrev pub name_faults : List JUnit → List NameFault
name_faults units = import_faults (world units) 0 units ++ (class_faults (facts units) ++ member_faults (facts units) units)

-- all that is at fault in the names of a project, and in its entries
abbrev pub project_notes : List JUnit → List (List ℕ) → List (Note Later)
project_notes units entries = notes units (name_faults units) ++ entry_notes (world units) (scopes units) units entries

-- ---- projects

-- no name has a fault
pub record IsBound (units : List JUnit) (entries : List (List ℕ)) : Type 0 where
  pub none : faults_in (project_notes units entries) ≡ []

-- the fault is the first of the project, and of those of one code at one place the first that was noted
pub record IsRefused (units : List JUnit) (entries : List (List ℕ)) (fault : Fault) : Type 0 where
  pub first : IsFirst (project_notes units entries) fault
  pub told : first_fault (project_notes units entries) ≡ Some fault

abbrev pub IsRefusal : List JUnit → List (List ℕ) → Stop → Type 0
IsRefusal units entries stop.Memory = Unit {0}
IsRefusal units entries (stop.Fault fault) = IsRefused units entries fault

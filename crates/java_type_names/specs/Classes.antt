-- A class by its package and its name.
use Rattle.std.specs.Prelude.{ℕ, ◌+◌, ◌&&◌, ◌||◌, if◌then◌else◌, List, [], ◌∷◌, Option, Some, None, slice_get}
use Rattle.std.specs.Str.{bytes_eq}
use Rattle.std.specs.Option.{option_or}
use Rattle.java_lib.specs.Library.{Class, classes}
use Rattle.java_lib.specs.Classes.{class_simple}
use Rattle.java_classes.specs.declared.rows.ClassRow.{ClassRow}
use Rattle.java_type_names.specs.declared.classes.Meant.{Meant}
use Rattle.java_type_names.specs.declared.classes.Meant.TheVariants as m

-- a class that is public, or of the same package, may be seen (JLS 6.6.1)
abbrev pub seen : ClassRow → List ℕ → ℕ → Option Meant
seen row from number = if row.is_public || bytes_eq row.home from then Some (m.Project number) else None

-- among the classes from a number on: of two of one qualified name the first is meant
abbrev pub project_from : List ℕ → List ℕ → List ℕ → ℕ → List ClassRow → Option Meant
project_from from home name number [] = None
project_from from home name number (row ∷ rows) =
    if bytes_eq row.home home && bytes_eq row.name name then seen row from number else project_from from home name (number + 1) rows

abbrev pub project_class : List ClassRow → List ℕ → List ℕ → List ℕ → Option Meant
project_class rows from home name = project_from from home name 0 rows

-- the same, by the number of the first class: helpers, which no promise names
abbrev pub seen_row : Option ClassRow → List ℕ → ℕ → Option Meant
seen_row None from number = None
seen_row (Some row) from number = seen row from number

abbrev pub seen_first : List ClassRow → List ℕ → Option ℕ → Option Meant
seen_first rows from None = None
seen_first rows from (Some number) = seen_row (slice_get rows number) from number

abbrev pub library_by : List ℕ → Option Class → Option Meant
library_by home None = None
library_by home (Some class) = if bytes_eq class.package_name home then Some (m.Library class.number) else None

abbrev pub library_class : List ℕ → List ℕ → Option Meant
library_class home name = library_by home (class_simple name classes)

-- seen from a package
abbrev pub seen_at : List ClassRow → List ℕ → List ℕ → List ℕ → Option Meant
seen_at rows from home name = option_or (project_class rows from home name) (library_class home name)

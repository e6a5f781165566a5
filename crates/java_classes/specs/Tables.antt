-- The first class of a project of which something is true.
use Rattle.std.specs.Prelude.{ℕ, ◌+◌, Bool, ◌&&◌, nat_eq, if◌then◌else◌, List, [], ◌∷◌, Option, Some, None}
use Rattle.std.specs.Str.{bytes_eq}
use Rattle.java_classes.specs.declared.rows.ClassRow.{ClassRow}

abbrev pub has_name : List ℕ → ClassRow → Bool
has_name name row = bytes_eq row.name name

abbrev pub is_of_package : List ℕ → ClassRow → Bool
is_of_package home row = bytes_eq row.home home

abbrev pub is_of_file : ℕ → ClassRow → Bool
is_of_file unit row = nat_eq row.unit unit

-- by its package and its name (JLS 6.7)
abbrev pub is_in_package : List ℕ → List ℕ → ClassRow → Bool
is_in_package home name row = is_of_package home row && has_name name row

-- by its file and its name
abbrev pub is_in_file : ℕ → List ℕ → ClassRow → Bool
is_in_file unit name row = is_of_file unit row && has_name name row

-- its number, among the classes from a number on
abbrev pub first_from : (ClassRow → Bool) → ℕ → List ClassRow → Option ℕ
first_from test number [] = None
first_from test number (row ∷ rows) = if test row then Some number else first_from test (number + 1) rows

abbrev pub first : (ClassRow → Bool) → List ClassRow → Option ℕ
first test rows = first_from test 0 rows

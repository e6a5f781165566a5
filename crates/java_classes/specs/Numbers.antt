-- The classes by their numbers: helpers, which no promise names.
use Rattle.std.specs.Prelude.{ℕ, ◌+◌, Bool, true, false, if◌then◌else◌, List, [], ◌∷◌, Option, Some, None, slice_get}
use Rattle.java_tables.specs.declared.groups.NamedRow.{NamedRow}
use Rattle.java_classes.specs.declared.rows.ClassRow.{ClassRow}

-- from a number on
abbrev pub numbered : ℕ → List ClassRow → List NamedRow
numbered number [] = []
numbered number (row ∷ rows) = record { name = row.name; number = number } ∷ numbered (number + 1) rows

abbrev pub is_nil : List ℕ → Bool
is_nil [] = true
is_nil (number ∷ numbers) = false

abbrev pub is_by : (ClassRow → Bool) → Option ClassRow → Bool
is_by test None = false
is_by test (Some row) = test row

abbrev pub is_at : (ClassRow → Bool) → List ClassRow → ℕ → Bool
is_at test rows number = is_by test (slice_get rows number)

-- the first of some numbers whose class passes
abbrev pub picked : (ClassRow → Bool) → List ClassRow → List ℕ → Option ℕ
picked test rows [] = None
picked test rows (number ∷ numbers) = if is_at test rows number then Some number else picked test rows numbers

-- Rows by their names.
use Rattle.std.specs.Prelude.{ℕ, List, [], ◌∷◌, Option, Some, None, if◌then◌else◌, map}
use Rattle.std.specs.List.{filter}
use Rattle.std.specs.Option.{option_map_or}
use Rattle.std.specs.HashMap.{get_by_text}
use Rattle.std.specs.Str.{bytes_eq}
use Rattle.java_tables.specs.declared.groups.NamedRow.{NamedRow}
use Rattle.java_tables.specs.declared.groups.Groups.{Groups}

-- what the first row of that name says
abbrev pub declared : {V : Type 0} → List ℕ → List (List ℕ × V) → Option V
declared name [] = None
declared name (row ∷ rows) = if bytes_eq name row.0 then Some row.1 else declared name rows

-- the numbers of the rows of a name, in their order
abbrev pub numbers_of : List ℕ → List NamedRow → List ℕ
numbers_of name rows = map (λ row. row.number) (filter (λ row. bytes_eq name row.name) rows)

-- what stands beside a name in a table, none where nothing does
abbrev pub grouped : Groups → List ℕ → List ℕ
grouped groups name = option_map_or (λ group. group.items) (get_by_text groups.by_name name) []

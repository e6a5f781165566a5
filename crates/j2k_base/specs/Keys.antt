-- Rows by their keys.
use Rattle.std.specs.Prelude.{ℕ, Bool, true, ◌&&◌, not, List, [], ◌∷◌, Option, bytes_eq, find}
use Rattle.std.specs.List.{list_any}
use Rattle.std.specs.Option.{option_map}
use Rattle.j2k_base.specs.declared.tables.Row.{Row}

-- no two rows have the same key
abbrev pub keys_differ : {V : Type 0} → List (Row V) → Bool
keys_differ [] = true
keys_differ (row ∷ rows) = not (list_any (λ other. bytes_eq row.key.now other.key.now) rows) && keys_differ rows

-- the value beside a key
abbrev pub value_beside : {V : Type 0} → List ℕ → List (Row V) → Option V
value_beside key rows = option_map (λ row. row.value) (find (λ row. bytes_eq row.key.now key) rows)

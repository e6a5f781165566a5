use Rattle.std.proofs.Common.{◌≡◌, ℕ, List, [], map, take}
use Rattle.std.specs.List.{filter}
use Rattle.std.specs.Option.{option_map_or}
use Rattle.std.specs.HashMap.{get_by_text}
use Rattle.std.specs.Str.{bytes_eq}
use Rattle.java_tables.proofs.groups.group.Given as goal

abbrev pub invariant-loop-row : goal.invariant-loop-row
invariant-loop-row l =
    (q : List ℕ) → option_map_or (λ g. g.items) (get_by_text l.by_name q) [] ≡ map (λ r. r.number) (filter (λ r. bytes_eq q r.name) (take l.row-index l.rows))

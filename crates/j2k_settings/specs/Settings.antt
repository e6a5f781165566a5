-- The settings of a project.
use Rattle.std.specs.Prelude.{◌≡◌, ◌⊎◌, ℕ, List, [], ◌∷◌, Some, codes}
use Rattle.std.specs.Str.{IsUtf8}
use Rattle.j2k_base.specs.declared.places.Phase.TheVariants.{Settings}
use Rattle.j2k_base.specs.declared.places.Fault.{Fault as FaultAt}
use Rattle.j2k_base.specs.declared.places.Stop.{Stop}
use Rattle.j2k_base.specs.declared.places.Stop.TheVariants.{Memory, Fault}
use Rattle.toml.specs.Data.{Items, no_items, item, Members, no_members, member, string, array}
use Rattle.toml.specs.Parse.{parse_document}

-- the file of the settings, at the top of a project
abbrev pub settings_file : List ℕ
settings_file = codes "j2k.toml"

-- an array of these strings
abbrev pub array_of : List (List ℕ) → Items
array_of [] = no_items
array_of (text ∷ texts) = item (string text) (array_of texts)

-- the table of settings with these entries: its one key, where it has one, is that of an array of them
abbrev pub SetsTable : Members → List (List ℕ) → Type 0
SetsTable table entries = ((table ≡ no_members) × (entries ≡ [])) ⊎ (table ≡ member (codes "entries") (array (array_of entries)) no_members)

-- the bytes are a TOML text, which is UTF-8, of settings with these entries
abbrev pub Sets : List ℕ → List (List ℕ) → Type 0
Sets bytes entries = IsUtf8 bytes × ((table : Members) × (parse_document bytes ≡ Some table) × SetsTable table entries)

-- C1 at the start of the file
abbrev pub bad_settings : FaultAt
bad_settings = record { phase = Settings; number = 1; place = record { path = settings_file; offset = 0; line = 1; column = 1 } }

-- a fault is C1, and says that the bytes are no settings
abbrev pub IsRefusal : List ℕ → Stop → Type 0
IsRefusal bytes Memory = Unit {0}
IsRefusal bytes (Fault fault) = (fault ≡ bad_settings) × ((entries : List (List ℕ)) → Sets bytes entries → ⊥)

-- The members of a class by their numbers: helpers, which no promise names.
use Rattle.std.specs.Prelude.{ℕ, ◌+◌, List, [], ◌∷◌, ◌++◌, Option, Some, None, slice_get}
use Rattle.java_tables.specs.declared.groups.NamedRow.{NamedRow}
use Rattle.java_members.specs.declared.classes.Member.{Member}

-- from a number on
abbrev pub numbered : ℕ → List Member → List NamedRow
numbered number [] = []
numbered number (x ∷ xs) = record { name = x.name; number = number } ∷ numbered (number + 1) xs

abbrev pub if_there : {A : Type 0} → Option A → List A
if_there None = []
if_there (Some x) = x ∷ []

-- the members of some numbers
abbrev pub picked : List Member → List ℕ → List Member
picked members [] = []
picked members (n ∷ ns) = if_there (slice_get members n) ++ picked members ns

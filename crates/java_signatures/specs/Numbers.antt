-- The signatures of a class by their numbers: helpers, which no promise names.
use Rattle.std.specs.Prelude.{ℕ, ◌+◌, Bool, false, ◌&&◌, nat_lt, List, [], ◌∷◌, Option, Some, None, slice_get}
use Rattle.java_tables.specs.declared.groups.NamedRow.{NamedRow}
use Rattle.java_signatures.specs.declared.signatures.Signature.{Signature}
use Rattle.java_signatures.specs.Signatures.{same_signature}

-- from a number on
abbrev pub numbered : ℕ → List Signature → List NamedRow
numbered number [] = []
numbered number (x ∷ xs) = record { name = x.name; number = number } ∷ numbered (number + 1) xs

abbrev pub is_same_by : Signature → Option Signature → Bool
is_same_by x None = false
is_same_by x (Some y) = same_signature x y

-- before a number stands the same signature
abbrev pub is_earlier : List Signature → ℕ → Signature → ℕ → Bool
is_earlier xs number x other = nat_lt other number && is_same_by x (slice_get xs other)

-- Maps from the paths of files to their bytes.
use Rattle.std.specs.Prelude.{◌≡◌, ℕ, zero, suc, List, [], ◌∷◌}
use Rattle.std.specs.Ordering.{nat_cmp}
use Rattle.std.specs.Cmp.Lexicographic.{slice_cmp}
use Rattle.std.specs.FinMap as finite
use Rattle.std.specs.declared.cmp.Ordering.{Ordering}
use Rattle.std.specs.declared.cmp.Ordering.TheVariants.{Less, Equal, Greater}

-- files: from paths to bytes
abbrev pub Files : Type 0
Files = finite.FinMap (slice_cmp nat_cmp) (List ℕ)

-- the key stands at this place, above each before
abbrev pub IsThere : {K X : Type 0} → (K → K → Ordering) → K → List (K × X) → ℕ → Type 0
IsThere R key [] at = ⊥
IsThere R key (entry ∷ entries) zero = R key entry.0 ≡ Equal
IsThere R key (entry ∷ entries) (suc at) = (R key entry.0 ≡ Greater) × IsThere R key entries at

-- the key belongs at this place, above each before and below the one there
abbrev pub IsFree : {K X : Type 0} → (K → K → Ordering) → K → List (K × X) → ℕ → Type 0
IsFree R key [] zero = Unit {0}
IsFree R key [] (suc at) = ⊥
IsFree R key (entry ∷ entries) zero = R key entry.0 ≡ Less
IsFree R key (entry ∷ entries) (suc at) = (R key entry.0 ≡ Greater) × IsFree R key entries at

-- Locals that are told apart by their names.
use Rattle.std.specs.Prelude.{◌≡◌, ◌⊎◌, false, List, [], ◌∷◌}
use Rattle.java_scopes.specs.Scopes.{Locals, has_local}

abbrev pub IsIn : {A : Type 0} → A → List A → Type 0
IsIn x [] = ⊥
IsIn x (y ∷ ys) = (x ≡ y) ⊎ IsIn x ys

-- no two locals have one name
abbrev pub AreApart : Locals → Type 0
AreApart [] = Unit {0}
AreApart (x ∷ xs) = (has_local x.0 xs ≡ false) × AreApart xs

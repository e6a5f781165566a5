-- Which class of the project stands directly above which.
use Rattle.std.specs.Prelude.{◌≡◌, ◌⊎◌, ℕ, List, [], ◌∷◌, Some, slice_get}
use Rattle.java_type_names.specs.declared.classes.Meant.{Meant}
use Rattle.java_type_names.specs.declared.classes.Meant.TheVariants as m
use Rattle.java_supertypes.specs.declared.heads.Heading.{Heading}

abbrev pub IsIn : Meant → List Meant → Type 0
IsIn x [] = ⊥
IsIn x (y ∷ ys) = (x ≡ y) ⊎ IsIn x ys

-- the class of the second number stands directly above that of the first (JLS 8.1.4, 8.1.5, 9.1.3)
abbrev pub StandsAbove : List Heading → ℕ → ℕ → Type 0
StandsAbove xs a b = (x : Heading) × ((slice_get xs a ≡ Some x) × IsIn (m.Project b) x.above)

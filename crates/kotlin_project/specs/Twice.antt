-- K2 of classes: the second of two of one name in one package.
use Rattle.std.specs.Prelude.{◌≡◌, ◌⊎◌, Bool, false, if◌then◌else◌, List, [], ◌∷◌, ◌++◌}
use Rattle.std.specs.List.{list_any}
use Rattle.kotlin_tree.specs.declared.types.KName.{KName}
use Rattle.kotlin_typing.specs.Notes.{Notes, noted}
use Rattle.kotlin_typing.specs.Written.{same_path}
use Rattle.kotlin_project.specs.Declared.{Declared, full_name}

abbrev pub have_one_name : Declared → Declared → Bool
have_one_name d e = same_path (full_name e) (full_name d)

abbrev pub is_again : List Declared → Declared → Bool
is_again before d = list_any (have_one_name d) before

abbrev pub again : List Declared → Declared → Notes
again before d = if is_again before d then noted d.file.path 2 d.class.name.at else []

abbrev pub twice_from : List Declared → List Declared → Notes
twice_from before [] = []
twice_from before (d ∷ ds) = again before d ++ twice_from (before ++ d ∷ []) ds

-- none has the name of an earlier one
abbrev pub AreApart : List Declared → List Declared → Type 0
AreApart before [] = Unit {0}
AreApart before (d ∷ ds) = (is_again before d ≡ false) × AreApart (before ++ d ∷ []) ds

abbrev pub IsIn : {A : Type 0} → A → List A → Type 0
IsIn x [] = ⊥
IsIn x (y ∷ ys) = (x ≡ y) ⊎ IsIn x ys

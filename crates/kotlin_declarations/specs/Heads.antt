-- K9 of supertypes: each is an open class or an interface, one class at most, only interfaces above an interface, and none is above
-- itself (Kotlin specification, "Classifier declaration", "Inheritance").
use Rattle.std.specs.Prelude.{ℕ, zero, suc, Bool, true, false, not, ◌&&◌, ◌||◌, if◌then◌else◌, List, [], ◌∷◌, ◌++◌, map, Option, Some, None}
use Rattle.std.specs.List.{list_any, filter}
use Rattle.kotlin_tree.specs.declared.places.Position.{Position}
use Rattle.kotlin_types.specs.declared.kinds.KClassRef.{KClassRef}
use Rattle.kotlin_types.specs.declared.kinds.KHead.{KHead}
use Rattle.kotlin_types.specs.declared.kinds.KKind.{KKind}
use Rattle.kotlin_types.specs.Types.{head_of, same_head}
use Rattle.kotlin_types.specs.Supertypes.{direct}
use Rattle.kotlin_typing.specs.declared.tables.KTables.{KTables}
use Rattle.kotlin_typing.specs.Notes.{Notes, noted}
use Rattle.kotlin_project.specs.Members.{is_one_of}

abbrev pub is_interface_type : List KClassRef → KKind → Bool
is_interface_type interfaces x = is_one_of interfaces (head_of x)

-- what may stand above a class
abbrev pub may_be_above : Bool → List KClassRef → List KClassRef → KKind → Bool
may_be_above in_interface interfaces opens x = is_one_of opens (head_of x) && (not in_interface || is_interface_type interfaces x)

abbrev pub supers_notes : List ℕ → Position → Bool → List KClassRef → List KClassRef → List KKind → Notes
supers_notes path at in_interface interfaces opens [] = []
supers_notes path at in_interface interfaces opens (x ∷ xs) =
    (if may_be_above in_interface interfaces opens x then [] else noted path 9 at) ++ supers_notes path at in_interface interfaces opens xs

-- a second class
abbrev pub second_notes : List ℕ → Position → List KKind → Notes
second_notes path at [] = []
second_notes path at (x ∷ []) = []
second_notes path at (x ∷ y ∷ xs) = noted path 9 at

-- whether a head stands among the ways up of so many steps
abbrev pub reaches : KTables → KHead → ℕ → KKind → Bool
reaches w h zero x = same_head (head_of x) h
reaches w h (suc n) x = same_head (head_of x) h || list_any (reaches w h n) (direct w.classes x)

abbrev pub is_above_itself : KTables → KKind → Bool
is_above_itself w x = list_any (reaches w (head_of x) w.classes.steps) (direct w.classes x)

abbrev pub cycle_notes : KTables → List ℕ → Position → KKind → Notes
cycle_notes w path at x = if is_above_itself w x then noted path 9 at else []

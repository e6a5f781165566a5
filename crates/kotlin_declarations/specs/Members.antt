-- The rules of members, at their names: K2 of two alike, K7 and K9 of functions and properties, K8 of blocks that stand or are
-- missing (Kotlin specification, "Function declaration", "Property declaration", "Overriding").
use Rattle.std.specs.Prelude.{ℕ, Bool, true, false, not, ◌&&◌, ◌||◌, if◌then◌else◌, List, [], ◌∷◌, ◌++◌, map, Option, Some, None, bytes_eq, is_some}
use Rattle.std.specs.List.{list_any}
use Rattle.kotlin_tree.specs.declared.places.Position.{Position}
use Rattle.kotlin_tree.specs.declared.statements.KBlock.{KBlock}
use Rattle.kotlin_tree.specs.declared.members.KModifier.{KModifier}
use Rattle.kotlin_tree.specs.declared.members.KMember.TheOpen.{KMember-F}
use Rattle.kotlin_flow.specs.Members.{Bare}
use Rattle.kotlin_types.specs.declared.kinds.KClassRef.{KClassRef}
use Rattle.kotlin_types.specs.declared.kinds.KKind.{KKind}
use Rattle.kotlin_typing.specs.declared.tables.KHolder.{KHolder}
use Rattle.kotlin_typing.specs.declared.tables.KCallable.{KCallable}
use Rattle.kotlin_typing.specs.declared.tables.KProperty.{KProperty}
use Rattle.kotlin_typing.specs.declared.tables.KTables.{KTables}
use Rattle.kotlin_typing.specs.Notes.{Notes, noted}
use Rattle.kotlin_project.specs.Members.{Function, IsAbstract, IsOverride, IsPrivate, function_at, has, kinds_of}
use Rattle.kotlin_declarations.specs.Inherited.{all_same}
use Rattle.kotlin_declarations.specs.Overrides.{override_notes}

-- ---- K2: a property by its name, a function by its name and its parameters' types, a constructor by these, one companion

abbrev pub same_kinds : Option (List KKind) → Option (List KKind) → Bool
same_kinds None ks = false
same_kinds (Some js) None = false
same_kinds (Some js) (Some ks) = all_same js ks

abbrev pub alike : KTables → Bare → Bare → Bool
alike w (KMember-F.Property m x v t) (KMember-F.Property n y u r) = bytes_eq x.name.name y.name.name
alike w (KMember-F.Function m at x params result body) (KMember-F.Function n to y others given block) = bytes_eq x.name y.name && same_kinds (kinds_of w params.items) (kinds_of w others.items)
alike w (KMember-F.Constructor m at params first body) (KMember-F.Constructor n to others second block) = same_kinds (kinds_of w params.items) (kinds_of w others.items)
alike w (KMember-F.Companion at members) (KMember-F.Companion to others) = true
alike w m n = false

-- at the name, or where there is none at the word
abbrev pub name_place : Position → Bare → Position
name_place at (KMember-F.Property modifiers x value set) = x.name.at
name_place at (KMember-F.Function modifiers word x params result body) = x.at
name_place at (KMember-F.Constructor modifiers word params first body) = word
name_place at (KMember-F.Companion place members) = place.companion
name_place at m = at

abbrev pub again : KTables → List ℕ → Position → List Bare → List Bare → Notes
again w path at before [] = []
again w path at before (m ∷ ms) =
    (if list_any (alike w m) before then noted path 2 (name_place at m) else []) ++ again w path at (before ++ m ∷ []) ms

-- ---- K8: an abstract function stands in an abstract class or an interface and has no block; every other has one

abbrev pub block_by : Bool → Bool → Bool → Bool → Bool
block_by true class_is_abstract is_abstract has_block = not (has_block && is_abstract)
block_by false class_is_abstract true has_block = class_is_abstract && not has_block
block_by false class_is_abstract false has_block = has_block

abbrev pub block_notes : List ℕ → Position → Bool → Notes
block_notes path at true = []
block_notes path at false = noted path 8 at

-- ---- K7 and K9

abbrev pub function_overrides : KTables → List ℕ → Position → Bool → List Function → List Function → Notes
function_overrides w path at is_override above [] = []
function_overrides w path at is_override above (f ∷ fs) = override_notes w path at f.callable is_override above ++ function_overrides w path at is_override above fs

-- what is private overrides nothing
abbrev pub private_notes : List ℕ → Position → List KModifier → Notes
private_notes path at xs = if has IsPrivate xs && has IsOverride xs then noted path 7 at else []

-- a property overrides none, so it has no name of one above
abbrev pub property_notes : List ℕ → Position → List ℕ → List KModifier → List KProperty → Notes
property_notes path at name xs above =
    if has IsOverride xs || list_any (λ (p : KProperty). bytes_eq p.name name) above then noted path 7 at else []

abbrev pub member_notes : KTables → List ℕ → KHolder → Bool → Bool → List Function → List KProperty → Bare → Notes
member_notes w path h in_interface class_is_abstract above properties (KMember-F.Function modifiers word x params result body) =
    block_notes path x.at (block_by in_interface class_is_abstract (has IsAbstract modifiers) (is_some body))
    ++ (private_notes path x.at modifiers
    ++ function_overrides w path x.at (has IsOverride modifiers) above (function_at w in_interface h (KMember-F.Function modifiers word x params result body)))
member_notes w path h in_interface class_is_abstract above properties (KMember-F.Property modifiers x value set) = property_notes path x.name.at x.name.name modifiers properties
member_notes w path h in_interface class_is_abstract above properties m = []

abbrev pub members_notes : KTables → List ℕ → KHolder → Bool → Bool → List Function → List KProperty → List Bare → Notes
members_notes w path h in_interface class_is_abstract above properties [] = []
members_notes w path h in_interface class_is_abstract above properties (m ∷ ms) =
    member_notes w path h in_interface class_is_abstract above properties m ++ members_notes w path h in_interface class_is_abstract above properties ms

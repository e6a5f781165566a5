-- K14: two members with one accessor name. A property that isn't private and bears neither `@JvmField` nor `const` has a getter,
-- and a `var` whose setter isn't private a setter; accessors and functions clash by name and number of parameters.
use Rattle.std.specs.Prelude.{ℕ, Bool, true, false, not, ◌&&◌, ◌||◌, ◌==◌, ◌-◌, if◌then◌else◌, List, [], ◌∷◌, ◌++◌, map, Option, Some, None, bytes_eq, codes, is_some, length}
use Rattle.std.specs.List.{list_any}
use Rattle.kotlin_tree.specs.declared.places.Position.{Position}
use Rattle.kotlin_tree.specs.declared.statements.KVariability.{KVariability}
use Rattle.kotlin_tree.specs.declared.statements.KVariability.TheVariants as word
use Rattle.kotlin_tree.specs.declared.members.KMember.TheOpen.{KMember-F}
use Rattle.kotlin_tree.specs.declared.members.KModifier.{KModifier}
use Rattle.kotlin_flow.specs.Members.{Bare}
use Rattle.kotlin_typing.specs.declared.scope.KStore.{KStore}
use Rattle.kotlin_typing.specs.declared.scope.KStore.TheVariants as store
use Rattle.kotlin_typing.specs.Notes.{Notes, noted}
use Rattle.kotlin_project.specs.Members.{IsConst, IsField, IsPrivate, has}

-- a method of the Java machine: its name, the number of its parameters, and whether it is an accessor
pub record Method : Type 0 where
  pub name : List ℕ
  pub count : ℕ
  pub is_accessor : Bool

abbrev pub is_small : ℕ → Bool
is_small c = list_any (λ (d : ℕ). d == c) (codes "abcdefghijklmnopqrstuvwxyz")

abbrev pub capital : List ℕ → List ℕ
capital [] = []
capital (c ∷ cs) = (if is_small c then c - 32 else c) ∷ cs

abbrev pub getter : List ℕ → Method
getter name = record { name = codes "get" ++ capital name; count = 0; is_accessor = true }

abbrev pub setter : List ℕ → Method
setter name = record { name = codes "set" ++ capital name; count = 1; is_accessor = true }

abbrev pub setters : Bool → KVariability → List ℕ → List Method
setters is_private word.Val name = []
setters true word.Var name = []
setters false word.Var name = setter name ∷ []

abbrev pub has_no_accessor : List KModifier → Bool
has_no_accessor xs = has IsPrivate xs || (has IsField xs || has IsConst xs)

abbrev pub methods_of : Bare → List Method
methods_of (KMember-F.Property modifiers x value set) = if has_no_accessor modifiers then [] else getter x.name.name ∷ setters (is_some set) x.word x.name.name
methods_of (KMember-F.Function modifiers at x params result body) = record { name = x.name; count = length params.items; is_accessor = false } ∷ []
methods_of m = []

abbrev pub clash : Method → Method → Bool
clash a b = (a.is_accessor || b.is_accessor) && (bytes_eq a.name b.name && (a.count == b.count))

abbrev pub clash_any : List Method → Method → Bool
clash_any before a = list_any (clash a) before

abbrev pub place_by : Bare → Position → Position
place_by (KMember-F.Property modifiers x value set) at = x.name.at
place_by (KMember-F.Function modifiers fun_at x params result body) at = x.at
place_by m at = at

-- at each member that clashes with one before it or above
abbrev pub accessor_notes : List ℕ → Position → List Method → List Bare → Notes
accessor_notes path at before [] = []
accessor_notes path at before (m ∷ ms) =
    (if list_any (clash_any before) (methods_of m) then noted path 14 (place_by m at) else [])
    ++ accessor_notes path at (before ++ methods_of m) ms

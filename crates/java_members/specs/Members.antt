-- The fields and methods that a class has by a name: those that it declares, and those that it inherits (JLS 8.2, 8.3, 8.4.8, 9.2).
use Rattle.std.specs.Prelude.{◌≡◌, ◌⊎◌, ℕ, suc, zero, Bool, true, false, ◌&&◌, ◌||◌, not, nat_eq, if◌then◌else◌, List, [], ◌∷◌, ◌++◌, map, Option, Some, None, slice_get}
use Rattle.std.specs.List.{filter, list_any}
use Rattle.std.specs.Str.{bytes_eq}
use Rattle.java_members.specs.declared.classes.Access.{Access}
use Rattle.java_members.specs.declared.classes.Access.TheVariants as access
use Rattle.java_members.specs.declared.classes.Member.{Member}
use Rattle.java_members.specs.declared.classes.Class.{Class}
use Rattle.java_members.specs.declared.classes.Sort.{Sort}
use Rattle.java_members.specs.declared.classes.Sort.TheVariants as sort
use Rattle.java_members.specs.declared.walks.Reached.{Reached}
use Rattle.java_members.specs.declared.inheritance.Found.{Found}

abbrev pub IsIn : {A : Type 0} → A → List A → Type 0
IsIn x [] = ⊥
IsIn x (y ∷ ys) = (x ≡ y) ⊎ IsIn x ys

-- ---- what a class declares

abbrev pub declared : Sort → Class → List Member
declared sort.Field class = class.fields
declared sort.Method class = class.methods

abbrev pub has_name : List ℕ → Member → Bool
has_name name member = bytes_eq name member.name

-- the members of a name that a class declares
abbrev pub named : Sort → List ℕ → Class → List Member
named sort name class = filter (has_name name) (declared sort class)

-- a field hides each field of its name further up, whatever their types (JLS 8.3, 9.3); methods share names (JLS 8.4.9)
abbrev pub hides : Sort → List ℕ → Class → Bool
hides sort.Field name class = list_any (has_name name) class.fields
hides sort.Method name class = false

-- ---- what is inherited

abbrev pub is_open : Access → Bool
is_open access.Public = true
is_open access.Protected = true
is_open access.Package = false
is_open access.Private = false

abbrev pub is_of_package : Access → Bool
is_of_package access.Package = true
is_of_package _ = false

-- A class doesn't inherit the static methods of interfaces (JLS 8.4.8, 9.2).
abbrev pub stays : Sort → Class → Member → Bool
stays sort.Field class member = false
stays sort.Method class member = class.is_interface && member.is_static

-- A class inherits what is public or protected, what has no modifier where it is declared in the same package, and nothing
-- private (JLS 8.2, 8.4.8).
abbrev pub passes : Sort → Bool → Class → Member → Bool
passes sort is_same_package class member = not (stays sort class member) && (is_open member.access || (is_of_package member.access && is_same_package))

abbrev pub is_same_package : Class → Class → Bool
is_same_package a b = bytes_eq a.home b.home

module _ (table : List Class) (sort : Sort) (name : List ℕ) where
  -- A class has a member, which the class of another number declares, over so many steps up: it declares it; or it inherits it
  -- from a class or interface directly above it, and hides nothing of the name.
  pub data HasMember : ℕ → ℕ → ℕ → Member → Type 0 where
    Own : {a : ℕ} {class : Class} {member : Member} → slice_get table a ≡ Some class → IsIn member (named sort name class) → HasMember zero a a member
    Inherited : {steps a b c : ℕ} {class declaring : Class} {member : Member} →
        slice_get table a ≡ Some class → hides sort name class ≡ false → IsIn b class.above →
        HasMember steps b c member → slice_get table c ≡ Some declaring → passes sort (is_same_package class declaring) declaring member ≡ true →
        HasMember (suc steps) a c member

-- ---- the members, level by level

abbrev pub agree : Bool → Bool → Bool
agree true b = b
agree false b = not b

abbrev pub same_reached : Reached → Reached → Bool
same_reached x y = nat_eq x.class y.class && agree x.is_near y.is_near

abbrev pub with_one : List Reached → Reached → List Reached
with_one xs x = if list_any (same_reached x) xs then xs else xs ++ x ∷ []

abbrev pub home_is : List ℕ → Option Class → Bool
home_is home None = false
home_is home (Some class) = bytes_eq home class.home

module _ (table : List Class) where
  -- the classes directly above one: near where the one is, and they stand in its package
  abbrev pub with_above : List Reached → Bool → List ℕ → List ℕ → List Reached
  with_above xs is_near home [] = xs
  with_above xs is_near home (b ∷ bs) =
      with_above (with_one xs (record { class = b; is_near = is_near && home_is home (slice_get table b) })) is_near home bs

abbrev pub found : ℕ → Member → Found
found class member = record { class = class; is_static = member.is_static; access = member.access }

module _ (sort : Sort) (name : List ℕ) where
  abbrev pub own_by : ℕ → Option Class → List Found
  own_by a None = []
  own_by a (Some class) = map (found a) (named sort name class)

  abbrev pub inherited_by : Reached → Option Class → List Found
  inherited_by r None = []
  inherited_by r (Some class) = map (found r.class) (filter (passes sort r.is_near class) (named sort name class))

module _ (table : List Class) (sort : Sort) (name : List ℕ) where
  abbrev pub with_above_of : List Reached → Bool → Option Class → List Reached
  with_above_of xs is_near None = xs
  with_above_of xs is_near (Some class) = if hides sort name class then xs else with_above table xs is_near class.home class.above

  abbrev pub next_from : List Reached → List Reached → List Reached
  next_from xs [] = xs
  next_from xs (r ∷ rs) = next_from (with_above_of xs r.is_near (slice_get table r.class)) rs

  -- what stands directly above the classes of a level, where these don't hide it
  abbrev pub next : List Reached → List Reached
  next level = next_from [] level

  -- the levels from one on, so many of them
  abbrev pub levels : ℕ → List Reached → List Reached
  levels zero level = []
  levels (suc steps) level = level ++ levels steps (next level)

  -- the levels above a class
  abbrev pub above : ℕ → ℕ → List Reached
  above steps a = levels steps (next (record { class = a; is_near = true } ∷ []))

  abbrev pub inherited : List Reached → List Found
  inherited [] = []
  inherited (r ∷ rs) = inherited_by sort name r (slice_get table r.class) ++ inherited rs

  -- the members of a class by the name, of those over at most so many steps
  abbrev pub members : ℕ → ℕ → List Found
  members steps a = own_by sort name a (slice_get table a) ++ inherited (above steps a)

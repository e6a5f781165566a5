-- From where a member may be named (JLS 6.6).
use Rattle.std.specs.Prelude.{◌≡◌, ◌⊎◌, ℕ, Bool, true, false, ◌||◌, nat_eq, List, [], Option, Some, slice_get}
use Rattle.std.specs.List.{list_any}
use Rattle.std.specs.Str.{bytes_eq}
use Rattle.java_members.specs.declared.classes.Access.{Access}
use Rattle.java_members.specs.declared.classes.Access.TheVariants as access
use Rattle.java_members.specs.declared.classes.Class.{Class}
use Rattle.java_members.specs.declared.classes.Sort.TheVariants as sort
use Rattle.java_members.specs.Members.{IsIn, above}

abbrev pub homes_are_same : Option Class → Option Class → Bool
homes_are_same (Some x) (Some y) = bytes_eq x.home y.home
homes_are_same _ _ = false

module _ (table : List Class) where
  -- the class of one number stands above that of another (JLS 8.1.4, 8.1.5, 9.1.3)
  pub data IsAbove : ℕ → ℕ → Type 0 where
    Itself : {a : ℕ} → IsAbove a a
    Above : {a b c : ℕ} {class : Class} → slice_get table a ≡ Some class → IsIn b class.above → IsAbove b c → IsAbove a c

  abbrev pub AreOfOnePackage : ℕ → ℕ → Type 0
  AreOfOnePackage a c = (x : Class) × (y : Class) × (slice_get table a ≡ Some x) × (slice_get table c ≡ Some y) × (x.home ≡ y.home)

  -- What the class of one number declares may be named in the class of another (JLS 6.6.1, 6.6.2): all that is public; what is
  -- protected in the same package and in what stands below; what has no modifier in the same package; what is private in the
  -- class itself, since each class stands at the top of its file.
  abbrev pub IsAccessible : ℕ → ℕ → Access → Type 0
  IsAccessible a c access.Public = Unit {0}
  IsAccessible a c access.Protected = AreOfOnePackage a c ⊎ IsAbove a c
  IsAccessible a c access.Package = AreOfOnePackage a c
  IsAccessible a c access.Private = a ≡ c

  abbrev pub is_of_one_package : ℕ → ℕ → Bool
  is_of_one_package a c = homes_are_same (slice_get table a) (slice_get table c)

  -- over at most so many steps
  abbrev pub is_above : ℕ → ℕ → ℕ → Bool
  is_above steps a c = nat_eq a c || list_any (λ r. nat_eq r.class c) (above table sort.Method [] steps a)

  abbrev pub is_accessible : ℕ → ℕ → ℕ → Access → Bool
  is_accessible steps a c access.Public = true
  is_accessible steps a c access.Protected = is_of_one_package a c || is_above steps a c
  is_accessible steps a c access.Package = is_of_one_package a c
  is_accessible steps a c access.Private = nat_eq a c

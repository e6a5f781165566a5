-- Facts of the library's table, each found by computing it.
use Rattle.std.proofs.Common.{◌≡◌, ℕ, zero, suc, ◌<◌, Bool, true, false, ◌&&◌, ◌||◌, not, cond, length, get_or, is_some, is_none, nat_lt, ◌↔◌, List, [], ◌∷◌, map, Option, Some, None, IsTrue, IfSome, Bor, bytes_eq, find, slice_get, refl, sym, ◌∙◌, ap, subst, arith, ◌⊎◌, inl, inr}
use Rattle.std.specs.Prelude.{◌==◌}
use Rattle.std.proofs.lemmas.Bool.Decides.{nat_tests}
use Rattle.std.specs.List.{list_all, list_any, AllByRecursion}
use Rattle.std.specs.Option.{option_map, option_map_or, option_or, option_copied}
use Rattle.java_lib.specs.declared.rows.ClassRow.{ClassRow}
use Rattle.java_lib.specs.declared.rows.MemberRow.{MemberRow}
use Rattle.java_lib.specs.Library.{Class, Named, Member, object_class, classes, members}
use Rattle.java_lib.specs.Classes.{class_of, class_named, class_simple, class_qualified, qualified, above_stands, above_of, climbed, HasItsPlace}
use Rattle.java_lib.specs.Members.{same_member, members_differ, members_stand, member_of}

both_true : (a b : Bool) → (a && b) ≡ true → (a ≡ true) × (b ≡ true)
both_true true b h = (refl, h)
both_true false b h = cc

module _ {X : Type 0} (test : X → Bool) where
  at_place : (xs : List X) (k : ℕ) (x : X) → list_all test xs ≡ true → slice_get xs k ≡ Some x → test x ≡ true
  at_place [] k x h e = cc
  at_place (y ∷ xs) zero x h e = let same : y ≡ x = cc in sym (ap test same) ∙ (both_true _ _ h).0
  at_place (y ∷ xs) (suc k) x h e = at_place xs k x (both_true _ _ h).1 e

  found_at : (b : Bool) (p : X → Bool) (y : X) (xs : List X) (x : X) → (test y ≡ true) → ((find p xs ≡ Some x) → test x ≡ true) → cond b (Some y) (find p xs) ≡ Some x → test x ≡ true
  found_at true p y xs x h rest e = let same : y ≡ x = cc in sym (ap test same) ∙ h
  found_at false p y xs x h rest e = rest e

  found : (p : X → Bool) (xs : List X) (x : X) → list_all test xs ≡ true → find p xs ≡ Some x → test x ≡ true
  found p [] x h e = cc
  found p (y ∷ xs) x h e = found_at (p y) p y xs x (both_true _ _ h).0 (found p xs x (both_true _ _ h).1) e

below_length : (xs : List Named) (k : ℕ) (c : Class) → option_map (λ (found : Named). found.1) (slice_get xs k) ≡ Some c → k < length xs
below_length [] k c e = cc
below_length (x ∷ xs) zero c e = omega arith
below_length (x ∷ xs) (suc k) c e = let within : k < length xs = below_length xs k c e in omega arith

-- no two members of a class have one name and the same types of parameters
pub all_differ : list_all members_differ members ≡ true
all_differ = refl

pub distinct_at : (class : ℕ) (rows : List MemberRow) → slice_get members class ≡ Some (map member_of rows) → IsTrue (members_differ (map member_of rows))
distinct_at class rows e = at_place members_differ members class _ all_differ e

-- what stands above a class is a class
pub all_above_stand : list_all (λ (c : Named). above_stands c.1) classes ≡ true
all_above_stand = refl

of_found : (p : Named → Bool) (c : Class) → (r : Option Named) → r ≡ find p classes → option_map (λ (n : Named). n.1) r ≡ Some c → IsTrue (above_stands c)
of_found p c None e h = cc
of_found p c (Some n) e h =
    let same : n.1 ≡ c = cc in
    sym (ap above_stands same) ∙ found (λ (n : Named). above_stands n.1) p classes n all_above_stand (sym e)

of_either : (name : List ℕ) (c : Class) (a b : Option Class) → (a ≡ Some c → IsTrue (above_stands c)) → (b ≡ Some c → IsTrue (above_stands c)) → option_or a b ≡ Some c → IsTrue (above_stands c)
of_either name c None b ha hb e = hb e
of_either name c (Some x) b ha hb e = ha e

pub above_of_named : (name : List ℕ) (row : Option (Bor ClassRow)) → option_map class_of (option_copied row) ≡ class_named name classes → IfSome row (λ r. IsTrue (above_stands (class_of r.now)))
above_of_named name None e = tt
above_of_named name (Some r) e =
    of_either name (class_of r.now) (class_simple name classes) (class_qualified name classes) (of_found (λ (n : Named). bytes_eq n.0 name) _ _ refl) (of_found (λ (n : Named). bytes_eq name (qualified n)) _ _ refl) (sym e)

places : AllByRecursion (λ (c : Named). HasItsPlace c.1) classes
places = (refl, (refl, (refl, (refl, (refl, (refl, (refl, (refl, (refl, (refl, (refl, (refl, (refl, (refl, (refl, (refl, (refl, (refl, (refl, (refl, (refl, (refl, (refl, (refl, (refl, (refl, (refl, (refl, (refl, (refl, (refl, (refl, (refl, (refl, (refl, (refl, (refl, tt)))))))))))))))))))))))))))))))))))))

found_place : (b : Bool) (p : Named → Bool) (c : Named) (cs : List Named) (f : Named) → HasItsPlace c.1 → (find p cs ≡ Some f → HasItsPlace f.1) → cond b (Some c) (find p cs) ≡ Some f → HasItsPlace f.1
found_place true p c cs f h rest e = let same : c ≡ f = cc in subst (λ (n : Named). HasItsPlace n.1) same h
found_place false p c cs f h rest e = rest e

place_found : (p : Named → Bool) (cs : List Named) (f : Named) → AllByRecursion (λ (c : Named). HasItsPlace c.1) cs → find p cs ≡ Some f → HasItsPlace f.1
place_found p [] f h e = cc
place_found p (c ∷ cs) f h e = found_place (p c) p c cs f h.0 (place_found p cs f h.1) e

place_of : (p : Named → Bool) (c : Class) (r : Option Named) → r ≡ find p classes → option_map (λ (n : Named). n.1) r ≡ Some c → HasItsPlace c
place_of p c None e h = cc
place_of p c (Some n) e h = let same : n.1 ≡ c = cc in subst HasItsPlace same (place_found p classes n places (sym e))

place_either : (c : Class) (a b : Option Class) → (a ≡ Some c → HasItsPlace c) → (b ≡ Some c → HasItsPlace c) → option_or a b ≡ Some c → HasItsPlace c
place_either c None b ha hb e = hb e
place_either c (Some x) b ha hb e = ha e

pub place_of_named : (name : List ℕ) (row : Option (Bor ClassRow)) → option_map class_of (option_copied row) ≡ class_named name classes → IfSome row (λ r. HasItsPlace (class_of r.now))
place_of_named name None e = tt
place_of_named name (Some r) e =
    place_either (class_of r.now) (class_simple name classes) (class_qualified name classes) (place_of (λ (n : Named). bytes_eq n.0 name) _ _ refl) (place_of (λ (n : Named). bytes_eq name (qualified n)) _ _ refl) (sym e)

-- the test passes at each number below
abbrev all_below : (ℕ → Bool) → ℕ → Bool
all_below test zero = true
all_below test (suc n) = test n && all_below test n

less_or_same : (k n : ℕ) → k < suc n → (k < n) ⊎ (k ≡ n)
less_or_same zero zero lt = inr refl
less_or_same zero (suc n) lt = inl (omega arith)
less_or_same (suc k) zero lt = absurd (omega arith)
less_or_same (suc k) (suc n) lt =
    let lower : k < suc n = omega arith in
    elim (less_or_same k n lower) [ inl below ↦ inl (omega arith) | inr same ↦ inr (ap suc same) ]

below_at : (test : ℕ → Bool) (n k : ℕ) → all_below test n ≡ true → k < n → test k ≡ true
below_at test zero k h lt = absurd (omega arith)
below_at test (suc n) k h lt =
    elim (less_or_same k n lt) [ inl below ↦ below_at test n k (both_true _ _ h).1 below | inr same ↦ ap test same ∙ (both_true _ _ h).0 ]

abbrev rows_stand : ℕ → Bool
rows_stand k = option_map_or (members_stand k) (slice_get members k) true

-- the classes and type parameters that members name are there
pub all_stand : all_below rows_stand 37 ≡ true
all_stand = refl

pub stands_at : (class : ℕ) (rows : List MemberRow) → class < 37 → slice_get members class ≡ Some (map member_of rows) → IsTrue (members_stand class (map member_of rows))
stands_at class rows lt e = sym (ap (λ (r : Option (List Member)). option_map_or (members_stand class) r true) e) ∙ below_at rows_stand 37 class all_stand lt

-- ---- above and below

within_of : (c : Class) → HasItsPlace c → c.number < 37
within_of c e = below_length classes c.number c e

pub number_within : (name : List ℕ) (row : Option (Bor ClassRow)) → option_map class_of (option_copied row) ≡ class_named name classes → IfSome row (λ r. r.now.number < length members)
number_within name None e = tt
number_within name (Some r) e = within_of (class_of r.now) (place_of_named name (Some r) e)

above_at : (r : Option Named) (class above : ℕ) → slice_get classes class ≡ r → option_map_or (λ (found : Named). found.1.above) r None ≡ Some above → above < length classes
above_at None class above e h = cc
above_at (Some found) class above e h =
    let stands : above_stands found.1 ≡ true = at_place (λ (c : Named). above_stands c.1) classes class found all_above_stand e in
    let low : nat_lt above 37 ≡ true = sym (ap (λ (o : Option ℕ). option_map_or (λ a. nat_lt a 37) o true) h) ∙ stands in
    grind (arith, nat_tests)

pub above_is_class : (class above : ℕ) → above_of class ≡ Some above → above < length classes
above_is_class class above h = above_at (slice_get classes class) class above refl h

abbrev is_topmost : ℕ → Bool
is_topmost class = cond (class == 0) (is_none (above_of class)) (is_some (above_of class))

all_topmost : all_below is_topmost 37 ≡ true
all_topmost = refl

only_object : (class : ℕ) (b : Bool) (above : Option ℕ) → (class == 0) ≡ b → cond b (is_none above) (is_some above) ≡ true → above ≡ None → class ≡ 0
only_object class true above e h none = grind (arith, nat_tests)
only_object class false None e h none = cc
only_object class false (Some a) e h none = cc

pub topmost : (class : ℕ) → class < length classes → (above_of class ≡ None) ↔ (class ≡ object_class)
topmost class lt =
    (λ none. only_object class (class == 0) (above_of class) refl (below_at is_topmost 37 class all_topmost lt) none, λ (is : class ≡ 0). ap above_of is)

abbrev ends_at_object : ℕ → Bool
ends_at_object class = climbed 37 class == 0

all_end : all_below ends_at_object 37 ≡ true
all_end = refl

is_zero : (n : ℕ) → (n == 0) ≡ true → n ≡ 0
is_zero n e = grind (arith, nat_tests)

pub under_object : (class : ℕ) → class < length classes → climbed (length classes) class ≡ object_class
under_object class lt = is_zero (climbed 37 class) (below_at ends_at_object 37 class all_end lt)

-- ---- members of a class

neither : (a b : Bool) → not (a || b) ≡ true → (a ≡ false) × (not b ≡ true)
neither true b h = cc
neither false b h = (refl, h)

none_like : (row : Member) (rows : List Member) (j : ℕ) (d : Member) → not (list_any (same_member row) rows) ≡ true → j < length rows → same_member row (get_or rows j d) ≡ false
none_like row [] j d h lt = absurd (omega arith)
none_like row (other ∷ rows) zero d h lt = (neither _ _ h).0
none_like row (other ∷ rows) (suc j) d h lt = none_like row rows j d (neither _ _ h).1 (omega arith)

two_differ : (rows : List Member) → members_differ rows ≡ true → (i j : ℕ) (d : Member) → i < j → j < length rows → same_member (get_or rows i d) (get_or rows j d) ≡ false
two_differ [] h i j d below lt = absurd (omega arith)
two_differ (row ∷ rows) h i zero d below lt = absurd (omega arith)
two_differ (row ∷ rows) h zero (suc j) d below lt = none_like row rows j d (both_true _ _ h).0 (omega arith)
two_differ (row ∷ rows) h (suc i) (suc j) d below lt = two_differ rows (both_true _ _ h).1 i j d (omega arith) (omega arith)

pub members_apart : (class : ℕ) (rows : List Member) → slice_get members class ≡ Some rows → (i j : ℕ) (d : Member) → i < j → j < length rows → same_member (get_or rows i d) (get_or rows j d) ≡ false
members_apart class rows e = two_differ rows (at_place members_differ members class rows all_differ e)

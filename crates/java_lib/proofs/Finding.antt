-- Finding classes by names that differ.
use Rattle.std.proofs.Common.{◌≡◌, ◌↔◌, inl, inr, ℕ, zero, suc, ◌<◌, Bool, true, false, cond, ◌&&◌, ◌||◌, not, List, [], ◌∷◌, length, get_or, Option, Some, None, IsNone, All, Bor, bytes_eq, find, refl, sym, ◌∙◌, ap, arith}
use Rattle.std.specs.List.{list_all, list_any}
use Rattle.std.specs.Option.{option_map, option_or, option_copied}
use Rattle.std.proofs.lemmas.Slice.Eq.{bytes_eq-Decides}
use Rattle.java_lib.specs.declared.rows.ClassRow.{ClassRow}
use Rattle.java_lib.specs.Library.{Named, classes}
use Rattle.java_lib.specs.Classes.{class_of, class_named, class_qualified, qualified, HasName, HasNoName}

is_false : (b : Bool) → (b ≡ true → ⊥) → b ≡ false
is_false true h = absurd (h refl)
is_false false h = refl

both_true : (a b : Bool) → (a && b) ≡ true → (a ≡ true) × (b ≡ true)
both_true true b h = (refl, h)
both_true false b h = cc

neither : (a b : Bool) → not (a || b) ≡ true → (a ≡ false) × (not b ≡ true)
neither true b h = cc
neither false b h = (refl, h)

is_not : (b : Bool) → not b ≡ true → b ≡ false
is_not true h = cc
is_not false h = refl

module _ {X : Type 0} (p : X → Bool) where
  no_first : (b : Bool) (x : X) (xs : List X) → cond b (Some x) (find p xs) ≡ None → (b ≡ false) × (find p xs ≡ None)
  no_first true x xs e = cc
  no_first false x xs e = (refl, e)

  none_where : (xs : List X) → find p xs ≡ None → (k : ℕ) (d : X) → k < length xs → p (get_or xs k d) ≡ false
  none_where [] e k d lt = absurd (omega arith)
  none_where (x ∷ xs) e zero d lt = (no_first (p x) x xs e).0
  none_where (x ∷ xs) e (suc k) d lt = none_where xs (no_first (p x) x xs e).1 k d (omega arith)

  none_of : (xs : List X) → ((k : ℕ) (d : X) → k < length xs → p (get_or xs k d) ≡ false) → find p xs ≡ None
  none_of [] h = refl
  none_of (x ∷ xs) h = ap (λ b. cond b (Some x) (find p xs)) (h 0 x (omega arith)) ∙ none_of xs (λ k d lt. h (suc k) d (omega arith))

  all_at : (xs : List X) (k : ℕ) (d : X) → list_all p xs ≡ true → k < length xs → p (get_or xs k d) ≡ true
  all_at [] k d h lt = absurd (omega arith)
  all_at (x ∷ xs) zero d h lt = (both_true _ _ h).0
  all_at (x ∷ xs) (suc k) d h lt = all_at xs k d (both_true _ _ h).1 (omega arith)

-- the keys differ
abbrev differ_by : {X : Type 0} → (X → List ℕ) → List X → Bool
differ_by key [] = true
differ_by key (x ∷ xs) = not (list_any (λ y. bytes_eq (key x) (key y)) xs) && differ_by key xs

module _ {X : Type 0} (key : X → List ℕ) where
  unlike : (l : List ℕ) (xs : List X) (k : ℕ) (d : X) → not (list_any (λ y. bytes_eq l (key y)) xs) ≡ true → k < length xs → bytes_eq l (key (get_or xs k d)) ≡ false
  unlike l [] k d h lt = absurd (omega arith)
  unlike l (x ∷ xs) zero d h lt = (neither _ _ h).0
  unlike l (x ∷ xs) (suc k) d h lt = unlike l xs k d (neither _ _ h).1 (omega arith)

  -- the one whose key is the name is found
  first_where : (name : List ℕ) (p : X → Bool) → ((x : X) → key x ≡ name → p x ≡ true) → ((x : X) → p x ≡ true → key x ≡ name) → (xs : List X) → differ_by key xs ≡ true → (k : ℕ) (d : X) → k < length xs → key (get_or xs k d) ≡ name → find p xs ≡ Some (get_or xs k d)
  first_where name p at_key back [] h k d lt e = absurd (omega arith)
  first_where name p at_key back (x ∷ xs) h zero d lt e = ap (λ b. cond b (Some x) (find p xs)) (at_key x e)
  first_where name p at_key back (x ∷ xs) h (suc k) d lt e =
      let parts : (not (list_any (λ y. bytes_eq (key x) (key y)) xs) ≡ true) × (differ_by key xs ≡ true) = both_true _ _ h in
      let within : k < length xs = omega arith in
      let other : p x ≡ false =
      is_false (p x) (λ found.
      let same : bytes_eq (key x) (key (get_or xs k d)) ≡ true = (bytes_eq-Decides _ _).1 (back x found ∙ sym e) in
      let unlike_it : bytes_eq (key x) (key (get_or xs k d)) ≡ false = unlike (key x) xs k d parts.0 within in
      cc) in
      ap (λ b. cond b (Some x) (find p xs)) other ∙ first_where name p at_key back xs parts.1 k d within e

pub simple_names_differ : differ_by (λ (c : Named). c.0) classes ≡ true
simple_names_differ = refl

pub qualified_names_differ : differ_by qualified classes ≡ true
qualified_names_differ = refl

abbrev is_apart : Named → Bool
is_apart a = list_all (λ (b : Named). not (bytes_eq b.0 (qualified a))) classes

-- no simple name is a qualified one
pub names_apart : list_all is_apart classes ≡ true
names_apart = refl

module _ (name : List ℕ) where
  abbrev has_simple : Named → Bool
  has_simple c = bytes_eq c.0 name

  abbrev has_qualified : Named → Bool
  has_qualified c = bytes_eq name (qualified c)

  simple_yes : (c : Named) → c.0 ≡ name → has_simple c ≡ true
  simple_yes c e = (bytes_eq-Decides c.0 name).1 e

  simple_back : (c : Named) → has_simple c ≡ true → c.0 ≡ name
  simple_back c h = (bytes_eq-Decides c.0 name).0 h

  qualified_yes : (c : Named) → qualified c ≡ name → has_qualified c ≡ true
  qualified_yes c e = (bytes_eq-Decides name (qualified c)).1 (sym e)

  qualified_back : (c : Named) → has_qualified c ≡ true → qualified c ≡ name
  qualified_back c h = sym ((bytes_eq-Decides name (qualified c)).0 h)

  by_simple : (k : ℕ) (d : Named) → k < length classes → (get_or classes k d).0 ≡ name → class_named name classes ≡ Some (get_or classes k d).1
  by_simple k d lt e =
      ap (λ (r : Option Named). option_or (option_map (λ (c : Named). c.1) r) (class_qualified name classes)) (first_where (λ (c : Named). c.0) name has_simple simple_yes simple_back classes simple_names_differ k d lt e)

  no_simple : (k : ℕ) (d : Named) → k < length classes → qualified (get_or classes k d) ≡ name → find has_simple classes ≡ None
  no_simple k d lt e =
      none_of has_simple classes (λ j b below.
      ap (bytes_eq (get_or classes j b).0) (sym e) ∙ is_not _ (all_at (λ (c : Named). not (bytes_eq c.0 (qualified (get_or classes k d)))) classes j b (all_at is_apart classes k d names_apart lt) below))

  by_qualified : (k : ℕ) (d : Named) → k < length classes → qualified (get_or classes k d) ≡ name → class_named name classes ≡ Some (get_or classes k d).1
  by_qualified k d lt e =
      ap (λ (r : Option Named). option_or (option_map (λ (c : Named). c.1) r) (class_qualified name classes)) (no_simple k d lt e)
      ∙ ap (option_map (λ (c : Named). c.1)) (first_where qualified name has_qualified qualified_yes qualified_back classes qualified_names_differ k d lt e)

  pub named_at : (found : Option (Bor ClassRow)) → option_map class_of (option_copied found) ≡ class_named name classes → All (λ (c : Named). HasName name c → option_map class_of (option_copied found) ≡ Some c.1) classes
  named_at found e k d lt has = elim has [ inl simple ↦ e ∙ by_simple k d lt simple | inr long ↦ e ∙ by_qualified k d lt long ]

  no_either : (a b : Option Named) → option_or (option_map (λ (c : Named). c.1) a) (option_map (λ (c : Named). c.1) b) ≡ None → (a ≡ None) × (b ≡ None)
  no_either None None e = (refl, refl)
  no_either None (Some b) e = cc
  no_either (Some a) b e = cc

  nowhere : class_named name classes ≡ None → All (HasNoName name) classes
  nowhere e k d lt =
      let parts = no_either (find has_simple classes) (find has_qualified classes) e in (
        λ (same : (get_or classes k d).0 ≡ name). let yes_it : has_simple (get_or classes k d) ≡ true = simple_yes (get_or classes k d) same in let no_it = none_where has_simple classes parts.0 k d lt in cc,
        λ (same : qualified (get_or classes k d) ≡ name). let yes_it : has_qualified (get_or classes k d) ≡ true = qualified_yes (get_or classes k d) same in let no_it = none_where has_qualified classes parts.1 k d lt in cc,
      )

  missing : All (HasNoName name) classes → class_named name classes ≡ None
  missing h =
      ap (λ (r : Option Named). option_or (option_map (λ (c : Named). c.1) r) (class_qualified name classes)) (none_of has_simple classes (λ k d lt. is_false _ (λ is. (h k d lt).0 (simple_back (get_or classes k d) is))))
      ∙ ap (option_map (λ (c : Named). c.1)) (none_of has_qualified classes (λ k d lt. is_false _ (λ is. (h k d lt).1 (qualified_back (get_or classes k d) is))))

  pub absent_where : (found : Option (Bor ClassRow)) → option_map class_of (option_copied found) ≡ class_named name classes → IsNone found ↔ All (HasNoName name) classes
  absent_where None e = (λ h. nowhere (sym e), λ h. refl)
  absent_where (Some r) e = (λ h. cc, λ h. let none : class_named name classes ≡ None = missing h in cc)

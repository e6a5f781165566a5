-- Looking classes up by their names.
use Rattle.std.proofs.Common.{◌≡◌, ℕ, Bool, true, false, cond, List, [], ◌∷◌, ◌++◌, length, take, drop, map, Option, Some, None, Bor, bytes_eq, find, refl, sym, ◌∙◌, ap, arith}
use Rattle.std.specs.Option.{option_map, option_copied, option_or}
use Rattle.std.proofs.lemmas.Slice.Eq.{bytes_eq-Decides}
use Rattle.std.proofs.lemmas.Bool.Decides.{nat_tests}
use Rattle.std.proofs.lemmas.List.{take-append-drop}
use Rattle.j2k_base.specs.declared.tables.Row.{Row}
use Rattle.j2k_base.specs.Keys.{value_beside}
use Rattle.java_lib.specs.declared.rows.ClassRow.{ClassRow}
use Rattle.java_lib.specs.Library.{Class, Named}
use Rattle.java_lib.specs.Classes.{class_of, named, qualified, class_simple, class_qualified, value_qualified}

is_false : (b : Bool) → (b ≡ true → ⊥) → b ≡ false
is_false true h = absurd (h refl)
is_false false h = refl

after_front : (p r k : List ℕ) → bytes_eq (p ++ r) (p ++ k) ≡ bytes_eq r k
after_front [] r k = refl
after_front (x ∷ p) r k = grind (arith, nat_tests, after_front p r k)

take_front : (p k : List ℕ) → take (length p) (p ++ k) ≡ p
take_front [] k = refl
take_front (x ∷ p) k = ap (λ (l : List ℕ). x ∷ l) (take_front p k)

-- a text with a front is another exactly where the rests are
front_yes : (p k n : List ℕ) → bytes_eq (take (length p) n) p ≡ true → bytes_eq (drop (length p) n) k ≡ bytes_eq n (p ++ k)
front_yes p k n h =
    let front = (bytes_eq-Decides (take (length p) n) p).0 h in
    let whole : n ≡ p ++ drop (length p) n = sym (take-append-drop (length p) n) ∙ ap (λ (f : List ℕ). f ++ drop (length p) n) front in
    sym (after_front p (drop (length p) n) k) ∙ ap (λ (l : List ℕ). bytes_eq l (p ++ k)) (sym whole)

front_no : (p k n : List ℕ) → bytes_eq (take (length p) n) p ≡ false → false ≡ bytes_eq n (p ++ k)
front_no p k n h =
    sym (is_false _ (λ same.
    let whole : n ≡ p ++ k = (bytes_eq-Decides n (p ++ k)).0 same in
    let front : take (length p) n ≡ p = ap (take (length p)) whole ∙ take_front p k in
    let yes : bytes_eq (take (length p) n) p ≡ true = (bytes_eq-Decides _ _).1 front in
    cc))

-- the name has another front than the package, or no dot after it, or another rest
pub other_package : (p q n k : List ℕ) → q ≡ p → bytes_eq (take (length q) n) q ≡ false → false ≡ bytes_eq n (p ++ 46 ∷ k)
other_package p q n k e h = front_no q (46 ∷ k) n h ∙ ap (λ (l : List ℕ). bytes_eq n (l ++ 46 ∷ k)) e

after_package : (p q n k rest : List ℕ) → q ≡ p → bytes_eq (take (length q) n) q ≡ true → rest ≡ drop (length q) n → bytes_eq rest (46 ∷ k) ≡ bytes_eq n (p ++ 46 ∷ k)
after_package p q n k rest e h is = ap (λ (l : List ℕ). bytes_eq l (46 ∷ k)) is ∙ front_yes q (46 ∷ k) n h ∙ ap (λ (l : List ℕ). bytes_eq n (l ++ 46 ∷ k)) e

pub no_dot : (p q n k rest : List ℕ) → q ≡ p → bytes_eq (take (length q) n) q ≡ true → rest ≡ drop (length q) n → bytes_eq (take 1 rest) (46 ∷ []) ≡ false → false ≡ bytes_eq n (p ++ 46 ∷ k)
no_dot p q n k rest e h is other = front_no (46 ∷ []) k rest other ∙ after_package p q n k rest e h is

pub rest_after : (p q n k key rest simple : List ℕ) → q ≡ p → bytes_eq (take (length q) n) q ≡ true → rest ≡ drop (length q) n → bytes_eq (take 1 rest) (46 ∷ []) ≡ true → simple ≡ drop 1 rest → key ≡ k → bytes_eq simple key ≡ bytes_eq n (p ++ 46 ∷ k)
rest_after p q n k key rest simple e h is dot simple_is key_is =
    ap (bytes_eq simple) key_is
    ∙ ap (λ (l : List ℕ). bytes_eq l k) simple_is
    ∙ front_yes (46 ∷ []) k rest dot
    ∙ after_package p q n k rest e h is

module _ (name : List ℕ) where
  by_simple : (b : Bool) (row : Row ClassRow) (rows : List (Row ClassRow)) → option_map class_of (value_beside name rows) ≡ class_simple name (map named rows) → option_map class_of (option_map (λ (r : Row ClassRow). r.value) (cond b (Some row) (find (λ (r : Row ClassRow). bytes_eq r.key.now name) rows))) ≡ option_map (λ (c : Named). c.1) (cond b (Some (named row)) (find (λ (c : Named). bytes_eq c.0 name) (map named rows)))
  by_simple true row rows h = refl
  by_simple false row rows h = h

  pub simple_is : (rows : List (Row ClassRow)) → option_map class_of (value_beside name rows) ≡ class_simple name (map named rows)
  simple_is [] = refl
  simple_is (row ∷ rows) = by_simple (bytes_eq row.key.now name) row rows (simple_is rows)

  by_qualified : (b : Bool) (row : Row ClassRow) (rows : List (Row ClassRow)) → option_map class_of (value_qualified name rows) ≡ class_qualified name (map named rows) → option_map class_of (option_map (λ (r : Row ClassRow). r.value) (cond b (Some row) (find (λ (r : Row ClassRow). bytes_eq name (qualified (named r))) rows))) ≡ option_map (λ (c : Named). c.1) (cond b (Some (named row)) (find (λ (c : Named). bytes_eq name (qualified c)) (map named rows)))
  by_qualified true row rows h = refl
  by_qualified false row rows h = h

  pub qualified_is : (rows : List (Row ClassRow)) → option_map class_of (value_qualified name rows) ≡ class_qualified name (map named rows)
  qualified_is [] = refl
  qualified_is (row ∷ rows) = by_qualified (bytes_eq name (qualified (named row))) row rows (qualified_is rows)

pub either_is : (a b : Option (Bor ClassRow)) (x y : Option Class) → option_map class_of (option_copied a) ≡ x → option_map class_of (option_copied b) ≡ y → option_map class_of (option_copied (option_or a b)) ≡ option_or x y
either_is None b x y ex ey = ey ∙ ap (λ (v : Option Class). option_or v y) ex
either_is (Some r) b x y ex ey = ap (λ (v : Option Class). option_or v y) ex

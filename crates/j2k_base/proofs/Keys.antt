-- Looking rows up by their keys.
use Rattle.std.proofs.Common.{◌≡◌, ◌≢◌, ◌↔◌, ◌<◌, ℕ, zero, suc, Bool, true, false, ◌&&◌, ◌||◌, not, cond, T, List, [], ◌∷◌, length, get_or, Option, Some, None, IsTrue, IsNone, All, Bor, bytes_eq, find, refl, sym, ◌∙◌, ap, subst, arith}
use Rattle.std.specs.List.{list_any}
use Rattle.std.specs.Option.{option_map, option_copied}
use Rattle.std.proofs.lemmas.Slice.Eq.{bytes_eq-Decides}
use Rattle.j2k_base.specs.declared.tables.Row.{Row}
use Rattle.j2k_base.specs.Keys.{keys_differ, value_beside}

both_parts : (a b : Bool) → T (a && b) → T a × T b
both_parts true b h = (tt, h)
both_parts false b h = absurd h

no_first : (a b : Bool) → T (not (a || b)) → a ≡ false
no_first true b h = absurd h
no_first false b h = refl

no_rest : (a b : Bool) → T (not (a || b)) → T (not b)
no_rest true b h = absurd h
no_rest false b h = h

is_false : (b : Bool) → (b ≡ true → ⊥) → b ≡ false
is_false true h = absurd (h refl)
is_false false h = refl

module _ {V : Type 0} where
  -- the first row beside a key, or what the other rows have
  abbrev step : List ℕ → Row V → List (Row V) → Bool → Option V
  step key row rows b = option_map (λ (r : Row V). r.value) (cond b (Some row) (find (λ (r : Row V). bytes_eq r.key.now key) rows))

  unlike : (x : List ℕ) (rows : List (Row V)) (k : ℕ) (d : Row V) → T (not (list_any (λ (o : Row V). bytes_eq x o.key.now) rows)) → k < length rows → bytes_eq x (get_or rows k d).key.now ≡ false
  unlike x [] k d h lt = absurd (omega arith)
  unlike x (row ∷ rows) zero d h lt = no_first _ _ h
  unlike x (row ∷ rows) (suc k) d h lt = unlike x rows k d (no_rest _ _ h) (omega arith)

  -- where keys differ, the value beside the key of a row is the row's
  beside_each : (key : List ℕ) (rows : List (Row V)) → T (keys_differ rows) → (k : ℕ) (d : Row V) → k < length rows → (get_or rows k d).key.now ≡ key → value_beside key rows ≡ Some (get_or rows k d).value
  beside_each key [] s k d lt same = absurd (omega arith)
  beside_each key (row ∷ rows) s zero d lt same = ap (step key row rows) ((bytes_eq-Decides row.key.now key).1 same)
  beside_each key (row ∷ rows) s (suc k) d lt same =
      let parts : T (not (list_any (λ (o : Row V). bytes_eq row.key.now o.key.now) rows)) × T (keys_differ rows) = both_parts _ _ s in
      let within : k < length rows = omega arith in
      let other : bytes_eq row.key.now key ≡ false = ap (bytes_eq row.key.now) (sym same) ∙ unlike row.key.now rows k d parts.0 within in
      ap (step key row rows) other ∙ beside_each key rows parts.1 k d within same

  pub beside : (key : List ℕ) (rows : List (Row V)) (found : Option (Bor V)) → IsTrue (keys_differ rows) → option_copied found ≡ value_beside key rows → All (λ (row : Row V). row.key.now ≡ key → option_copied found ≡ Some row.value) rows
  beside key rows found s e k d lt same = e ∙ beside_each key rows (subst T (sym s) tt) k d lt same

  missing : (key : List ℕ) (rows : List (Row V)) → ((k : ℕ) (d : Row V) → k < length rows → (get_or rows k d).key.now ≢ key) → value_beside key rows ≡ None
  missing key [] h = refl
  missing key (row ∷ rows) h =
      ap (step key row rows) (is_false _ (λ is. h 0 row (omega arith) ((bytes_eq-Decides row.key.now key).0 is)))
      ∙ missing key rows (λ k d lt. h (suc k) d (omega arith))

  first_is : (b : Bool) (key : List ℕ) (row : Row V) (rows : List (Row V)) → step key row rows b ≡ None → (b ≡ false) × (value_beside key rows ≡ None)
  first_is true key row rows e = cc
  first_is false key row rows e = (refl, e)

  missing_all : (key : List ℕ) (rows : List (Row V)) → value_beside key rows ≡ None → (k : ℕ) (d : Row V) → k < length rows → (get_or rows k d).key.now ≢ key
  missing_all key [] e k d lt same = absurd (omega arith)
  missing_all key (row ∷ rows) e zero d lt same =
      let no : bytes_eq row.key.now key ≡ false = (first_is (bytes_eq row.key.now key) key row rows e).0 in
      let yes : bytes_eq row.key.now key ≡ true = (bytes_eq-Decides row.key.now key).1 same in
      cc
  missing_all key (row ∷ rows) e (suc k) d lt same = missing_all key rows (first_is (bytes_eq row.key.now key) key row rows e).1 k d (omega arith) same

  -- none is found exactly where no row has the key
  pub absent : (key : List ℕ) (rows : List (Row V)) (found : Option (Bor V)) → option_copied found ≡ value_beside key rows → IsNone found ↔ All (λ (row : Row V). row.key.now ≢ key) rows
  absent key rows None e = (λ h. missing_all key rows (sym e), λ h. refl)
  absent key rows (Some x) e = (λ h. cc, λ h. let none : value_beside key rows ≡ None = missing key rows h in cc)

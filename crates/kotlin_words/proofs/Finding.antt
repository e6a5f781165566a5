-- A word has a row exactly where it is one of the words.
use Rattle.std.proofs.Common.{◌≡◌, ℕ, Bool, true, false, cond, ◌||◌, List, [], ◌∷◌, map, Option, Some, None, Bor, bytes_eq, find, is_some, refl, sym, ◌∙◌, ap}
use Rattle.std.specs.Option.{option_map, option_copied}
use Rattle.std.proofs.lemmas.Slice.Eq.{bytes_eq-Decides}
use Rattle.j2k_base.specs.declared.tables.Row.{Row}
use Rattle.j2k_base.specs.Keys.{value_beside}
use Rattle.kotlin_words.specs.Words.{word_of, contains_word}

same_test : (x y : Bool) → (x ≡ true → y ≡ true) → (y ≡ true → x ≡ true) → x ≡ y
same_test true y to from = sym (to refl)
same_test false true to from = from refl
same_test false false to from = refl

swapped : (a b : List ℕ) → bytes_eq a b ≡ bytes_eq b a
swapped a b = same_test (bytes_eq a b) (bytes_eq b a) (λ e. (bytes_eq-Decides b a).1 (sym ((bytes_eq-Decides a b).0 e))) (λ e. (bytes_eq-Decides a b).1 (sym ((bytes_eq-Decides b a).0 e)))

first_or_later : (b : Bool) (row : Row (Unit {0})) (x : Option (Row (Unit {0}))) → is_some (option_map (λ (r : Row (Unit {0})). r.value) (cond b (Some row) x)) ≡ (b || is_some (option_map (λ (r : Row (Unit {0})). r.value) x))
first_or_later true row x = refl
first_or_later false row x = refl

has : (word : List ℕ) (rows : List (Row (Unit {0}))) → is_some (value_beside word rows) ≡ contains_word (map word_of rows) word
has word [] = refl
has word (row ∷ rows) =
    first_or_later (bytes_eq row.key.now word) row (find (λ (r : Row (Unit {0})). bytes_eq r.key.now word) rows)
    ∙ ap (λ b. b || is_some (value_beside word rows)) (swapped row.key.now word)
    ∙ ap (λ b. bytes_eq word row.key.now || b) (has word rows)

copied : (found : Option (Bor (Unit {0}))) → is_some found ≡ is_some (option_copied found)
copied None = refl
copied (Some u) = refl

pub row_found : (word : List ℕ) (rows : List (Row (Unit {0}))) (found : Option (Bor (Unit {0}))) → option_copied found ≡ value_beside word rows → is_some found ≡ contains_word (map word_of rows) word
row_found word rows found e = copied found ∙ ap is_some e ∙ has word rows

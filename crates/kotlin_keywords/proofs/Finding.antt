-- Finding words in a table.
use Rattle.std.proofs.Common.{◌≡◌, ℕ, ◌<◌, ◌≤◌, Bool, true, false, cond, ◌&&◌, ◌||◌, not, List, [], ◌∷◌, length, map, take, Option, Some, None, slice_index, bytes_eq, find, eqb, refl, sym, ◌∙◌, ap, arith}
use Rattle.std.specs.List.{filter, AllByRecursion}
use Rattle.std.specs.Option.{option_map}
use Rattle.std.proofs.lemmas.Slice.Eq.{bytes_eq-Decides}
use Rattle.j2k_base.specs.declared.tables.Row.{Row}
use Rattle.j2k_base.specs.Keys.{value_beside}
use Rattle.kotlin_keywords.specs.declared.words.WordKind.{WordKind}
use Rattle.kotlin_keywords.specs.Words.{Entry, keywords, soft_words, word_of, begins, beside}

is_false : (b : Bool) → (b ≡ true → ⊥) → b ≡ false
is_false true h = absurd (h refl)
is_false false h = refl

both_true : (a b : Bool) → (a && b) ≡ true → (a ≡ true) × (b ≡ true)
both_true true b h = (refl, h)
both_true false b h = cc

neither : (a b : Bool) → not (a || b) ≡ true → (a ≡ false) × (not b ≡ true)
neither true b h = cc
neither false b h = (refl, h)

-- ---- rows and what they say

by_row : (word : List ℕ) (b : Bool) (row : Row WordKind) (rows : List (Row WordKind)) → value_beside word rows ≡ beside word (map word_of rows) → option_map (λ (r : Row WordKind). r.value) (cond b (Some row) (find (λ (r : Row WordKind). bytes_eq r.key.now word) rows)) ≡ option_map (λ (r : Entry). r.1) (cond b (Some (word_of row)) (find (λ (r : Entry). bytes_eq r.0 word) (map word_of rows)))
by_row word true row rows h = refl
by_row word false row rows h = h

pub value_is : (word : List ℕ) (rows : List (Row WordKind)) → value_beside word rows ≡ beside word (map word_of rows)
value_is word [] = refl
value_is word (row ∷ rows) = by_row word (bytes_eq row.key.now word) row rows (value_is word rows)

-- ---- the rows of a letter

same_first : (a : Bool) (row : Entry) (x y : Option Entry) → option_map (λ (r : Entry). r.1) x ≡ option_map (λ (r : Entry). r.1) y → option_map (λ (r : Entry). r.1) (cond a (Some row) x) ≡ option_map (λ (r : Entry). r.1) (cond a (Some row) y)
same_first true row x y e = refl
same_first false row x y e = e

not_first : (a : Bool) (row : Entry) (x : Option Entry) → a ≡ false → option_map (λ (r : Entry). r.1) x ≡ option_map (λ (r : Entry). r.1) (cond a (Some row) x)
not_first true row x e = cc
not_first false row x e = refl

-- a row that is left out isn't the word's
kept : (word : List ℕ) (b : Bool) (row : Entry) (some rows : List Entry) → (bytes_eq row.0 word ≡ true → b ≡ true) → beside word some ≡ beside word rows → beside word (cond b (row ∷ some) some) ≡ beside word (row ∷ rows)
kept word true row some rows h e = same_first (bytes_eq row.0 word) row (find (λ (r : Entry). bytes_eq r.0 word) some) (find (λ (r : Entry). bytes_eq r.0 word) rows) e
kept word false row some rows h e = e ∙ not_first (bytes_eq row.0 word) row (find (λ (r : Entry). bytes_eq r.0 word) rows) (is_false _ (λ is. let never : false ≡ true = h is in cc))

begins_it : (c : ℕ) (cs : List ℕ) (row : Entry) → bytes_eq row.0 (c ∷ cs) ≡ true → begins c row ≡ true
begins_it c cs row e = (bytes_eq-Decides (take 1 row.0) (c ∷ [])).1 (ap (take 1) ((bytes_eq-Decides row.0 (c ∷ cs)).0 e))

narrowed : (c : ℕ) (cs : List ℕ) (rows : List Entry) → beside (c ∷ cs) (filter (begins c) rows) ≡ beside (c ∷ cs) rows
narrowed c cs [] = refl
narrowed c cs (row ∷ rows) = kept (c ∷ cs) (begins c row) row (filter (begins c) rows) rows (begins_it c cs row) (narrowed c cs rows)

pub with_letter : (table : List Entry) (word : List ℕ) (rows : List (Row WordKind)) → 1 ≤ length word → map word_of rows ≡ filter (begins (slice_index word 0)) table → beside word (map word_of rows) ≡ beside word table
with_letter table [] rows h e = absurd (omega arith)
with_letter table (c ∷ cs) rows h e = ap (beside (c ∷ cs)) e ∙ narrowed c cs table

no_keyword : None ≡ beside [] keywords
unfolding keywords
no_keyword = refl

no_soft_word : None ≡ beside [] soft_words
unfolding soft_words
no_soft_word = refl

pub empty_keyword : (word : List ℕ) → length word < 1 → None ≡ beside word keywords
empty_keyword [] h = no_keyword
empty_keyword (c ∷ cs) h = absurd (omega arith)

pub empty_soft_word : (word : List ℕ) → length word < 1 → None ≡ beside word soft_words
empty_soft_word [] h = no_soft_word
empty_soft_word (c ∷ cs) h = absurd (omega arith)

-- no row begins with the letter
abbrev BeginsElse : ℕ → Entry → Type 0
BeginsElse first row = begins first row ≡ false

none_begins : (first : ℕ) (rows : List Entry) → AllByRecursion (BeginsElse first) rows → [] ≡ filter (begins first) rows
none_begins first [] h = refl
none_begins first (row ∷ rows) h = none_begins first rows h.1 ∙ ap (λ x. cond x (row ∷ filter (begins first) rows) (filter (begins first) rows)) (sym h.0)

other : (b : Bool) → b ≡ false → (b && true) ≡ false
other true h = h
other false h = refl

-- no word that is also a name begins with another letter than these
pub no_soft_letter : (first : ℕ) → eqb 74 first ≡ false → eqb 83 first ≡ false → eqb 86 first ≡ false → eqb 97 first ≡ false → eqb 99 first ≡ false → eqb 102 first ≡ false → eqb 105 first ≡ false → eqb 106 first ≡ false → eqb 111 first ≡ false → eqb 112 first ≡ false → eqb 114 first ≡ false → eqb 115 first ≡ false → eqb 117 first ≡ false → eqb 120 first ≡ false → [] ≡ filter (begins first) soft_words
unfolding soft_words
no_soft_letter first h74 h83 h86 h97 h99 h102 h105 h106 h111 h112 h114 h115 h117 h120 =
    none_begins first soft_words (other _ h74, (other _ h74, (other _ h83, (other _ h86, (other _ h97, (other _ h97, (other _ h99, (other _ h99, (other _ h99, (other _ h99, (other _ h102, (other _ h105, (other _ h105, (other _ h106, (other _ h111, (other _ h111, (other _ h111, (other _ h112, (other _ h114, (other _ h115, (other _ h115, (other _ h115, (other _ h115, (other _ h117, (other _ h117, (other _ h120, (tt)))))))))))))))))))))))))))

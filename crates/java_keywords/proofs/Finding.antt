-- Finding words in a table.
use Rattle.std.proofs.Common.{◌≡◌, ◌≢◌, ◌↔◌, ℕ, zero, suc, ◌<◌, ◌≤◌, Bool, true, false, cond, ◌&&◌, ◌||◌, not, List, [], ◌∷◌, length, get_or, map, take, Option, Some, None, IsNone, All, slice_index, bytes_eq, find, refl, sym, ◌∙◌, ap, arith}
use Rattle.std.specs.List.{filter, list_any}
use Rattle.std.specs.Option.{option_map}
use Rattle.std.proofs.lemmas.Slice.Eq.{bytes_eq-Decides}
use Rattle.j2k_base.specs.declared.tables.Row.{Row}
use Rattle.j2k_base.specs.Keys.{value_beside}
use Rattle.java_keywords.specs.declared.words.WordKind.{WordKind}
use Rattle.java_keywords.specs.Words.{Word, words, word_of, begins, beside, word_kind}

is_false : (b : Bool) → (b ≡ true → ⊥) → b ≡ false
is_false true h = absurd (h refl)
is_false false h = refl

both_true : (a b : Bool) → (a && b) ≡ true → (a ≡ true) × (b ≡ true)
both_true true b h = (refl, h)
both_true false b h = cc

neither : (a b : Bool) → not (a || b) ≡ true → (a ≡ false) × (not b ≡ true)
neither true b h = cc
neither false b h = (refl, h)

-- ---- rows and what they say

by_row : (word : List ℕ) (b : Bool) (row : Row WordKind) (rows : List (Row WordKind)) → value_beside word rows ≡ beside word (map word_of rows) → option_map (λ (r : Row WordKind). r.value) (cond b (Some row) (find (λ (r : Row WordKind). bytes_eq r.key.now word) rows)) ≡ option_map (λ (r : Word). r.1) (cond b (Some (word_of row)) (find (λ (r : Word). bytes_eq r.0 word) (map word_of rows)))
by_row word true row rows h = refl
by_row word false row rows h = h

pub value_is : (word : List ℕ) (rows : List (Row WordKind)) → value_beside word rows ≡ beside word (map word_of rows)
value_is word [] = refl
value_is word (row ∷ rows) = by_row word (bytes_eq row.key.now word) row rows (value_is word rows)

-- ---- the rows of a letter

same_first : (a : Bool) (row : Word) (x y : Option Word) → option_map (λ (r : Word). r.1) x ≡ option_map (λ (r : Word). r.1) y → option_map (λ (r : Word). r.1) (cond a (Some row) x) ≡ option_map (λ (r : Word). r.1) (cond a (Some row) y)
same_first true row x y e = refl
same_first false row x y e = e

not_first : (a : Bool) (row : Word) (x : Option Word) → a ≡ false → option_map (λ (r : Word). r.1) x ≡ option_map (λ (r : Word). r.1) (cond a (Some row) x)
not_first true row x e = cc
not_first false row x e = refl

-- a row that is left out isn't the word's
kept : (word : List ℕ) (b : Bool) (row : Word) (some rows : List Word) → (bytes_eq row.0 word ≡ true → b ≡ true) → beside word some ≡ beside word rows → beside word (cond b (row ∷ some) some) ≡ beside word (row ∷ rows)
kept word true row some rows h e = same_first (bytes_eq row.0 word) row (find (λ (r : Word). bytes_eq r.0 word) some) (find (λ (r : Word). bytes_eq r.0 word) rows) e
kept word false row some rows h e = e ∙ not_first (bytes_eq row.0 word) row (find (λ (r : Word). bytes_eq r.0 word) rows) (is_false _ (λ is. let never : false ≡ true = h is in cc))

begins_it : (c : ℕ) (cs : List ℕ) (row : Word) → bytes_eq row.0 (c ∷ cs) ≡ true → begins c row ≡ true
begins_it c cs row e = (bytes_eq-Decides (take 1 row.0) (c ∷ [])).1 (ap (take 1) ((bytes_eq-Decides row.0 (c ∷ cs)).0 e))

narrowed : (c : ℕ) (cs : List ℕ) (rows : List Word) → beside (c ∷ cs) (filter (begins c) rows) ≡ beside (c ∷ cs) rows
narrowed c cs [] = refl
narrowed c cs (row ∷ rows) = kept (c ∷ cs) (begins c row) row (filter (begins c) rows) rows (begins_it c cs row) (narrowed c cs rows)

pub with_letter : (word : List ℕ) (rows : List (Row WordKind)) → 1 ≤ length word → map word_of rows ≡ filter (begins (slice_index word 0)) words → beside word (map word_of rows) ≡ word_kind word
with_letter [] rows h e = absurd (omega arith)
with_letter (c ∷ cs) rows h e = ap (beside (c ∷ cs)) e ∙ narrowed c cs words

nowhere : None ≡ word_kind []
unfolding words
nowhere = refl

pub no_letter : (word : List ℕ) → length word < 1 → None ≡ word_kind word
no_letter [] h = nowhere
no_letter (c ∷ cs) h = absurd (omega arith)

-- ---- where a word stands

abbrev words_differ : List Word → Bool
words_differ [] = true
words_differ (row ∷ rows) = not (list_any (λ (other : Word). bytes_eq row.0 other.0) rows) && words_differ rows

differ : words_differ words ≡ true
unfolding words
differ = refl

unlike : (word : List ℕ) (rows : List Word) (k : ℕ) (d : Word) → not (list_any (λ (other : Word). bytes_eq word other.0) rows) ≡ true → k < length rows → bytes_eq word (get_or rows k d).0 ≡ false
unlike word [] k d h lt = absurd (omega arith)
unlike word (row ∷ rows) zero d h lt = (neither _ _ h).0
unlike word (row ∷ rows) (suc k) d h lt = unlike word rows k d (neither _ _ h).1 (omega arith)

-- where words differ, a row is the one that its word finds
first_where : (word : List ℕ) (rows : List Word) → words_differ rows ≡ true → (k : ℕ) (d : Word) → k < length rows → (get_or rows k d).0 ≡ word → beside word rows ≡ Some (get_or rows k d).1
first_where word [] h k d lt e = absurd (omega arith)
first_where word (row ∷ rows) h zero d lt e = ap (λ b. option_map (λ (r : Word). r.1) (cond b (Some row) (find (λ (r : Word). bytes_eq r.0 word) rows))) ((bytes_eq-Decides row.0 word).1 e)
first_where word (row ∷ rows) h (suc k) d lt e =
    let parts : (not (list_any (λ (other : Word). bytes_eq row.0 other.0) rows) ≡ true) × (words_differ rows ≡ true) = both_true _ _ h in
    let within : k < length rows = omega arith in
    let other : bytes_eq row.0 word ≡ false = ap (bytes_eq row.0) (sym e) ∙ unlike row.0 rows k d parts.0 within in
    ap (λ b. option_map (λ (r : Word). r.1) (cond b (Some row) (find (λ (r : Word). bytes_eq r.0 word) rows))) other ∙ first_where word rows parts.1 k d within e

no_first : (b : Bool) (row : Word) (x : Option Word) → option_map (λ (r : Word). r.1) (cond b (Some row) x) ≡ None → (b ≡ false) × (option_map (λ (r : Word). r.1) x ≡ None)
no_first true row x e = cc
no_first false row x e = (refl, e)

none_where : (word : List ℕ) (rows : List Word) → beside word rows ≡ None → (k : ℕ) (d : Word) → k < length rows → (get_or rows k d).0 ≢ word
none_where word [] e k d lt is = absurd (omega arith)
none_where word (row ∷ rows) e zero d lt is =
    let no : bytes_eq row.0 word ≡ false = (no_first (bytes_eq row.0 word) row (find (λ (r : Word). bytes_eq r.0 word) rows) e).0 in
    let yes : bytes_eq row.0 word ≡ true = (bytes_eq-Decides row.0 word).1 is in
    cc
none_where word (row ∷ rows) e (suc k) d lt is = none_where word rows (no_first (bytes_eq row.0 word) row (find (λ (r : Word). bytes_eq r.0 word) rows) e).1 k d (omega arith) is

none_of : (word : List ℕ) (rows : List Word) → ((k : ℕ) (d : Word) → k < length rows → (get_or rows k d).0 ≢ word) → beside word rows ≡ None
none_of word [] h = refl
none_of word (row ∷ rows) h =
    sym (not_first (bytes_eq row.0 word) row (find (λ (r : Word). bytes_eq r.0 word) rows) (is_false _ (λ is. h 0 row (omega arith) ((bytes_eq-Decides row.0 word).0 is)))) ∙ none_of word rows (λ k d lt. h (suc k) d (omega arith))

pub kind_at : (word : List ℕ) (found : Option WordKind) → found ≡ word_kind word → All (λ (row : Word). row.0 ≡ word → found ≡ Some row.1) words
kind_at word found e k d lt is = e ∙ first_where word words differ k d lt is

pub absent_where : (word : List ℕ) (found : Option WordKind) → found ≡ word_kind word → IsNone found ↔ All (λ (row : Word). row.0 ≢ word) words
absent_where word None e = (λ h. none_where word words (sym e), λ h. refl)
absent_where word (Some kind) e = (λ h. cc, λ h. let none : word_kind word ≡ None = none_of word words h in cc)

-- How open brackets lie within one another, and which of them pair.
use Rattle.std.proofs.Common.{◌≡◌, ◌<◌, ◌≤◌, ◌⊎◌, ℕ, zero, suc, Bool, true, false, if◌then◌else◌, [], ◌∷◌, length, Some, None, refl, sym, ap, subst, ◌∙◌, inl, inr, arith}
use Rattle.std.proofs.lemmas.Option.{slice_get_past}
use Rattle.std.proofs.lemmas.Bool.{cases_lt}
use Rattle.kotlin_brackets.specs.declared.stack.Form.{Form}
use Rattle.kotlin_brackets.specs.declared.stack.Form.TheVariants as f
use Rattle.kotlin_brackets.specs.declared.stack.Bracket.{Bracket}
use Rattle.kotlin_brackets.specs.declared.stack.Bracket.TheVariants as b
use Rattle.kotlin_brackets.specs.declared.stack.Opened.{Opened}
use Rattle.kotlin_brackets.specs.Brackets.{Tokens, bracket_of, bracket_at, same, Open, closed_by, after, open_before, Pairs}

-- ---- what the token n does

pub data Turn (ts : Tokens) (n : ℕ) : Type 0 where
  Opens : (form : Form) → bracket_at ts n ≡ b.Opens form → open_before ts (suc n) ≡ record { number = n; form = form } ∷ open_before ts n
      → closed_by (open_before ts n) (bracket_at ts n) ≡ None → Turn ts n
  Pairs_with : (x : Opened) (xs : Open) (form : Form) → bracket_at ts n ≡ b.Closes form → open_before ts n ≡ x ∷ xs → open_before ts (suc n) ≡ xs
      → Pairs ts x.number n → Turn ts n
  Closes_none : (form : Form) → bracket_at ts n ≡ b.Closes form → open_before ts (suc n) ≡ open_before ts n
      → closed_by (open_before ts n) (bracket_at ts n) ≡ None → Turn ts n
  Passes : bracket_at ts n ≡ b.Other → open_before ts (suc n) ≡ open_before ts n
      → closed_by (open_before ts n) (bracket_at ts n) ≡ None → Turn ts n

after_is : (ts : Tokens) (n : ℕ) (k : Bracket) (xs : Open) → bracket_at ts n ≡ k → open_before ts n ≡ xs → open_before ts (suc n) ≡ after xs n k
unfolding open_before
after_is ts n k xs e f = ap (λ (z : Open). after z n (bracket_at ts n)) f ∙ ap (λ (z : Bracket). after xs n z) e

closed_is : (ts : Tokens) (n : ℕ) (k : Bracket) (xs : Open) → bracket_at ts n ≡ k → open_before ts n ≡ xs
    → closed_by (open_before ts n) (bracket_at ts n) ≡ closed_by xs k
closed_is ts n k xs e f = ap (λ (z : Open). closed_by z (bracket_at ts n)) f ∙ ap (λ (z : Bracket). closed_by xs z) e

close_turn : (ts : Tokens) (n : ℕ) (form : Form) (x : Opened) (xs : Open) → bracket_at ts n ≡ b.Closes form → open_before ts n ≡ x ∷ xs
    → (v : Bool) → same x.form form ≡ v → Turn ts n
close_turn ts n form x xs e f true h =
    Turn.Pairs_with x xs form e f (after_is ts n (b.Closes form) (x ∷ xs) e f ∙ rw h refl) (closed_is ts n (b.Closes form) (x ∷ xs) e f ∙ rw h refl)
close_turn ts n form x xs e f false h =
    Turn.Closes_none form e (after_is ts n (b.Closes form) (x ∷ xs) e f ∙ rw h (sym f)) (closed_is ts n (b.Closes form) (x ∷ xs) e f ∙ rw h refl)

turn_of : (ts : Tokens) (n : ℕ) (k : Bracket) (xs : Open) → bracket_at ts n ≡ k → open_before ts n ≡ xs → Turn ts n
turn_of ts n (b.Opens form) [] e f = Turn.Opens form e (after_is ts n (b.Opens form) (open_before ts n) e refl) (closed_is ts n (b.Opens form) [] e f)
turn_of ts n (b.Opens form) (x ∷ xs) e f = Turn.Opens form e (after_is ts n (b.Opens form) (open_before ts n) e refl) (closed_is ts n (b.Opens form) (x ∷ xs) e f)
turn_of ts n (b.Closes form) [] e f = Turn.Closes_none form e (after_is ts n (b.Closes form) [] e f ∙ sym f) (closed_is ts n (b.Closes form) [] e f)
turn_of ts n (b.Closes form) (x ∷ xs) e f = close_turn ts n form x xs e f (same x.form form) refl
turn_of ts n b.Other [] e f = Turn.Passes e (after_is ts n b.Other [] e f ∙ sym f) (closed_is ts n b.Other [] e f)
turn_of ts n b.Other (x ∷ xs) e f = Turn.Passes e (after_is ts n b.Other (x ∷ xs) e f ∙ sym f) (closed_is ts n b.Other (x ∷ xs) e f)

pub turn : (ts : Tokens) (n : ℕ) → Turn ts n
turn ts n = turn_of ts n (bracket_at ts n) (open_before ts n) refl refl

-- ---- below an open one lie those that were open before it

abbrev pub Nested : Tokens → ℕ → Open → Type 0
Nested ts n [] = Unit {0}
Nested ts n (x ∷ xs) = (x.number < n) × (bracket_at ts x.number ≡ b.Opens x.form) × (open_before ts x.number ≡ xs) × Nested ts x.number xs

wider : (ts : Tokens) (m n : ℕ) (xs : Open) → m ≤ n → Nested ts m xs → Nested ts n xs
wider ts m n [] le h = tt
wider ts m n (x ∷ xs) le h = (let g = h.0 in omega (arith, g, le), h.1, h.2, h.3)

none_open : (ts : Tokens) → open_before ts zero ≡ []
unfolding open_before
none_open ts = refl

pub nested : (ts : Tokens) (n : ℕ) → Nested ts n (open_before ts n)
nested ts zero = let P : Open → Type 0 = λ xs. Nested ts zero xs in subst P (sym (none_open ts)) tt
nested ts (suc n) =
    let P : Open → Type 0 = λ xs. Nested ts (suc n) xs in
    let before = nested ts n in
    elim (turn ts n) [
      | Turn.Opens form e g p ↦ subst P (sym g) (omega arith, e, refl, before)
      | Turn.Pairs_with x xs form e f g p ↦
          let Q : Open → Type 0 = λ ys. Nested ts n ys in
          let at = subst Q f before in
          subst P (sym g) (wider ts x.number (suc n) xs (let lt = at.0 in omega (arith, lt)) at.3)
      | Turn.Closes_none form e g p ↦ subst P (sym g) (wider ts n (suc n) (open_before ts n) (omega arith) before)
      | Turn.Passes e g p ↦ subst P (sym g) (wider ts n (suc n) (open_before ts n) (omega arith) before)
    ]

-- the token i is one of those that are open
abbrev pub Has : ℕ → Open → Type 0
Has i [] = ⊥
Has i (x ∷ xs) = (x.number ≡ i) ⊎ Has i xs

pub has_below : (ts : Tokens) (n : ℕ) (xs : Open) (i : ℕ) → Nested ts n xs → Has i xs → i < n
has_below ts n [] i h has = absurd has
has_below ts n (x ∷ xs) i h has =
    let g = h.0 in
    elim has [ inl e ↦ omega (arith, g, e) | inr more ↦ let lt = has_below ts x.number xs i h.3 more in omega (arith, g, lt) ]

pub has_opens : (ts : Tokens) (n : ℕ) (xs : Open) (i : ℕ) → Nested ts n xs → Has i xs → (form : Form) × (bracket_at ts i ≡ b.Opens form)
has_opens ts n [] i h has = absurd has
has_opens ts n (x ∷ xs) i h has =
    elim has [ inl e ↦ (x.form, let P : ℕ → Type 0 = λ k. bracket_at ts k ≡ b.Opens x.form in subst P e h.1) | inr more ↦ has_opens ts x.number xs i h.3 more ]

-- ---- pairs

pub pairs_has : (ts : Tokens) (i j : ℕ) → Pairs ts i j → Has i (open_before ts j)
pairs_has ts i j h =
    elim (turn ts j) [
      | Turn.Opens form e g p ↦ absurd (cc (h, p))
      | Turn.Pairs_with x xs form e f g p ↦
          let P : Open → Type 0 = λ ys. Has i ys in
          let same_one : x.number ≡ i = cc (h, p) in
          subst P (sym f) (inl same_one)
      | Turn.Closes_none form e g p ↦ absurd (cc (h, p))
      | Turn.Passes e g p ↦ absurd (cc (h, p))
    ]

pub pairs_below : (ts : Tokens) (i j : ℕ) → Pairs ts i j → i < j
pairs_below ts i j h = has_below ts j (open_before ts j) i (nested ts j) (pairs_has ts i j h)

pub pairs_opens : (ts : Tokens) (i j : ℕ) → Pairs ts i j → (form : Form) × (bracket_at ts i ≡ b.Opens form)
pairs_opens ts i j h = has_opens ts j (open_before ts j) i (nested ts j) (pairs_has ts i j h)

pub pairs_closes : (ts : Tokens) (i j : ℕ) → Pairs ts i j → (form : Form) × (bracket_at ts j ≡ b.Closes form)
pairs_closes ts i j h =
    elim (turn ts j) [
      | Turn.Opens form e g p ↦ absurd (cc (h, p))
      | Turn.Pairs_with x xs form e f g p ↦ (form, e)
      | Turn.Closes_none form e g p ↦ absurd (cc (h, p))
      | Turn.Passes e g p ↦ absurd (cc (h, p))
    ]

past_end : (ts : Tokens) (n : ℕ) → length ts ≤ n → bracket_at ts n ≡ b.Other
unfolding bracket_at
past_end ts n h = ap bracket_of (slice_get_past ts n h)

pub bracket_within : (ts : Tokens) (n : ℕ) → (bracket_at ts n ≡ b.Other → ⊥) → n < length ts
bracket_within ts n h = elim (cases_lt n (length ts)) [ inl lt ↦ lt | inr ge ↦ absurd (h (past_end ts n ge)) ]

pub pairs_within : (ts : Tokens) (i j : ℕ) → Pairs ts i j → j < length ts
pairs_within ts i j h = let c = pairs_closes ts i j h in bracket_within ts j (λ e. let k = c.1 in cc (k, e))

pub split_suc : (j n : ℕ) → j < suc n → (j < n) ⊎ (j ≡ n)
split_suc j n h = elim (cases_lt j n) [ inl lt ↦ inl lt | inr ge ↦ inr (omega (arith, h, ge)) ]

-- one that is open pairs with none before
pub unpaired : (ts : Tokens) (n i j : ℕ) → Has i (open_before ts n) → j < n → Pairs ts i j → ⊥
unpaired ts zero i j has lt h = omega (arith, lt)
unpaired ts (suc n) i j has lt h =
    let P : Open → Type 0 = λ ys. Has i ys in
    let Q : ℕ → Type 0 = λ k. Pairs ts i k in
    elim (turn ts n) [
      | Turn.Opens form e g p ↦
          let now = subst P g has in
          elim now [
            | inl is ↦ let below = pairs_below ts i j h in omega (arith, is, below, lt)
            | inr old ↦ elim (split_suc j n lt) [ inl less ↦ unpaired ts n i j old less h | inr at ↦ let here = subst Q at h in cc (here, p) ]
          ]
      | Turn.Pairs_with x xs form e f g p ↦
          let now = subst P g has in
          elim (split_suc j n lt) [
            | inl less ↦ unpaired ts n i j (subst P (sym f) (inr now)) less h
            | inr at ↦
                let here = subst Q at h in
                let is : x.number ≡ i = cc (here, p) in
                let R : Open → Type 0 = λ ys. Nested ts n ys in
                let below = has_below ts x.number xs i (subst R f (nested ts n)).3 now in
                omega (arith, is, below)
          ]
      | Turn.Closes_none form e g p ↦
          elim (split_suc j n lt) [ inl less ↦ unpaired ts n i j (subst P g has) less h | inr at ↦ let here = subst Q at h in cc (here, p) ]
      | Turn.Passes e g p ↦
          elim (split_suc j n lt) [ inl less ↦ unpaired ts n i j (subst P g has) less h | inr at ↦ let here = subst Q at h in cc (here, p) ]
    ]

later : (ts : Tokens) (n i : ℕ) → ((j : ℕ) × (j < n) × Pairs ts i j) → (j : ℕ) × (j < suc n) × Pairs ts i j
later ts n i pair = (pair.0, let lt = pair.1 in omega (arith, lt), pair.2)

-- an opening bracket is open, or it pairs with one before
pub open_or_paired : (ts : Tokens) (n i : ℕ) (form : Form) → bracket_at ts i ≡ b.Opens form → i < n → Has i (open_before ts n) ⊎ ((j : ℕ) × (j < n) × Pairs ts i j)
open_or_paired ts zero i form is lt = absurd (omega (arith, lt))
open_or_paired ts (suc n) i form is lt =
    let P : Open → Type 0 = λ ys. Has i ys in
    let Q : ℕ → Type 0 = λ k. bracket_at ts k ≡ b.Opens form in
    elim (turn ts n) [
      | Turn.Opens new e g p ↦
          elim (split_suc i n lt) [
            | inl less ↦ elim (open_or_paired ts n i form is less) [ inl old ↦ inl (subst P (sym g) (inr old)) | inr pair ↦ inr (later ts n i pair) ]
            | inr at ↦ inl (subst P (sym g) (inl (sym at)))
          ]
      | Turn.Pairs_with x xs last e f g p ↦
          elim (split_suc i n lt) [
            | inl less ↦ elim (open_or_paired ts n i form is less) [
              | inl old ↦ elim (subst P f old) [
                | inl same_one ↦ inr (n, omega arith, let R : ℕ → Type 0 = λ k. Pairs ts k n in subst R same_one p)
                | inr rest ↦ inl (subst P (sym g) rest)
              ]
              | inr pair ↦ inr (later ts n i pair)
            ]
            | inr at ↦ let here = subst Q at is in absurd (cc (here, e))
          ]
      | Turn.Closes_none last e g p ↦
          elim (split_suc i n lt) [
            | inl less ↦ elim (open_or_paired ts n i form is less) [ inl old ↦ inl (subst P (sym g) old) | inr pair ↦ inr (later ts n i pair) ]
            | inr at ↦ let here = subst Q at is in absurd (cc (here, e))
          ]
      | Turn.Passes e g p ↦
          elim (split_suc i n lt) [
            | inl less ↦ elim (open_or_paired ts n i form is less) [ inl old ↦ inl (subst P (sym g) old) | inr pair ↦ inr (later ts n i pair) ]
            | inr at ↦ let here = subst Q at is in absurd (cc (here, e))
          ]
    ]

-- a bracket pairs with one at most
pub closes_one : (ts : Tokens) (i j k : ℕ) → Pairs ts i k → Pairs ts j k → i ≡ j
closes_one ts i j k g h = cc (g, h)

pub closed_once : (ts : Tokens) (i j k : ℕ) → Pairs ts i j → Pairs ts i k → j ≡ k
closed_once ts i j k g h =
    elim (cases_lt j k) [
      | inl less ↦ absurd (unpaired ts k i j (pairs_has ts i k h) less g)
      | inr ge ↦ elim (cases_lt k j) [
        | inl less ↦ absurd (unpaired ts j i k (pairs_has ts i j g) less h)
        | inr le ↦ omega (arith, ge, le)
      ]
    ]

-- ---- both of a pair have one form

same_form : (one other : Form) → same one other ≡ true → one ≡ other
same_form f.Round f.Round h = refl
same_form f.Square f.Square h = refl
same_form f.Curly f.Curly h = refl
same_form f.Round f.Square h = absurd (cc)
same_form f.Round f.Curly h = absurd (cc)
same_form f.Square f.Round h = absurd (cc)
same_form f.Square f.Curly h = absurd (cc)
same_form f.Curly f.Round h = absurd (cc)
same_form f.Curly f.Square h = absurd (cc)

record Closed (xs : Open) (k : Bracket) (i : ℕ) : Type 0 where
  one : Opened
  rest : Open
  first : xs ≡ one ∷ rest
  number : one.number ≡ i
  form : k ≡ b.Closes one.form

closed_if : (x : Opened) (xs : Open) (form : Form) (i : ℕ) (v : Bool) → same x.form form ≡ v → (if v then Some x.number else None) ≡ Some i
    → Closed (x ∷ xs) (b.Closes form) i
closed_if x xs form i true h e = record {
  one = x;
  rest = xs;
  first = refl;
  number = cc (e);
  form = ap (λ (z : Form). b.Closes z) (sym (same_form x.form form h));
}
closed_if x xs form i false h e = absurd (cc (e))

closed_as : (xs : Open) (k : Bracket) (i : ℕ) → closed_by xs k ≡ Some i → Closed xs k i
closed_as [] (b.Opens form) i h = absurd (cc)
closed_as [] (b.Closes form) i h = absurd (cc)
closed_as [] b.Other i h = absurd (cc)
closed_as (x ∷ xs) (b.Opens form) i h = absurd (cc)
closed_as (x ∷ xs) b.Other i h = absurd (cc)
closed_as (x ∷ xs) (b.Closes form) i h = closed_if x xs form i (same x.form form) refl h

pub pair_forms : (ts : Tokens) (i j : ℕ) → Pairs ts i j → (form : Form) × (bracket_at ts i ≡ b.Opens form) × (bracket_at ts j ≡ b.Closes form)
pair_forms ts i j h =
    let c = closed_as (open_before ts j) (bracket_at ts j) i h in
    let N : Open → Type 0 = λ ys. Nested ts j ys in
    let P : ℕ → Type 0 = λ k. bracket_at ts k ≡ b.Opens c.one.form in
    (c.one.form, subst P c.number (subst N c.first (nested ts j)).1, c.form)

pub pair_places : (ts : Tokens) (i j : ℕ) → Pairs ts i j → (i < j) × (j < length ts)
pair_places ts i j h = (pairs_below ts i j h, pairs_within ts i j h)

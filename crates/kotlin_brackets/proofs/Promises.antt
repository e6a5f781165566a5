-- What the rules of brackets promise.
use Rattle.std.proofs.Common.{◌≡◌, ◌≢◌, ◌<◌, ◌≤◌, ℕ, refl, subst, inl, inr, arith}
use Rattle.std.proofs.lemmas.Bool.{cases_lt}
use Rattle.kotlin_brackets.specs.declared.stack.Form.{Form}
use Rattle.kotlin_brackets.specs.declared.stack.Bracket.{Bracket}
use Rattle.kotlin_brackets.specs.declared.stack.Bracket.TheVariants as b
use Rattle.kotlin_brackets.specs.declared.flaws.Flaw.{Flaw}
use Rattle.kotlin_brackets.specs.declared.flaws.Flaw.TheVariants as w
use Rattle.kotlin_brackets.specs.Brackets.{Tokens, bracket_at, Open, open_before, IsOpening, Pairs, ArePartners, IsFirst}
use Rattle.kotlin_brackets.proofs.Nesting.{Turn, turn, Nested, nested, Has, has_below, pairs_below, pairs_opens, pairs_closes, closes_one, closed_once, open_or_paired}

-- one that opens isn't one that closes
apart : (ts : Tokens) (i j k l : ℕ) → Pairs ts i j → Pairs ts k l → j ≢ k
apart ts i j k l g h e =
    let P : ℕ → Type 0 = λ n. (form : Form) × (bracket_at ts n ≡ b.Closes form) in
    let c = subst P e (pairs_closes ts i j g) in
    let o = pairs_opens ts k l h in
    let x = c.1 in let y = o.1 in cc (x, y)

same_flaw : (ts : Tokens) (n : ℕ) (f g : Flaw) → IsFirst ts n f → IsFirst ts n g → f ≡ g
same_flaw ts n w.Lonely w.Lonely x y = refl
same_flaw ts n w.Lonely w.TooDeep x y = absurd (y.1 x.0)
same_flaw ts n w.TooDeep w.Lonely x y = absurd (x.1 y.0)
same_flaw ts n w.TooDeep w.TooDeep x y = refl

same_place : (ts : Tokens) (n m : ℕ) (f g : Flaw) → IsFirst ts n f → IsFirst ts m g → n ≡ m
same_place ts n m f g x y =
    elim (cases_lt n m) [
      | inl less ↦ absurd (y.2 n f less x.0)
      | inr ge ↦ elim (cases_lt m n) [ inl less ↦ absurd (x.2 m g less y.0) | inr le ↦ omega (arith, ge, le) ]
    ]

pub one_first : (ts : Tokens) (n m : ℕ) (f g : Flaw) → IsFirst ts n f → IsFirst ts m g → (n ≡ m) × (f ≡ g)
one_first ts n m f g x y =
    let e = same_place ts n m f g x y in
    let P : ℕ → Type 0 = λ k. IsFirst ts k f in
    (e, same_flaw ts m f g (subst P e x) y)

pub one_partner : (ts : Tokens) (n i j : ℕ) → ArePartners ts n i → ArePartners ts n j → i ≡ j
one_partner ts n i j x y =
    elim x [
      | inl g ↦ elim y [ inl h ↦ closed_once ts n i j g h | inr h ↦ absurd (apart ts j n n i h g refl) ]
      | inr g ↦ elim y [ inl h ↦ absurd (apart ts i n n j g h refl) | inr h ↦ closes_one ts i j n g h ]
    ]

-- the one that is closed is the last of those that are open
innermost : (ts : Tokens) (i j k : ℕ) → Pairs ts i j → Has k (open_before ts j) → k ≤ i
innermost ts i j k h has =
    elim (turn ts j) [
      | Turn.Opens form e g p ↦ absurd (cc (h, p))
      | Turn.Pairs_with x xs form e f g p ↦
          let P : Open → Type 0 = λ ys. Has k ys in
          let N : Open → Type 0 = λ ys. Nested ts j ys in
          let is : x.number ≡ i = cc (h, p) in
          elim (subst P f has) [
            | inl at ↦ omega (arith, at, is)
            | inr more ↦ let lt = has_below ts x.number xs k (subst N f (nested ts j)).3 more in omega (arith, lt, is)
          ]
      | Turn.Closes_none form e g p ↦ absurd (cc (h, p))
      | Turn.Passes e g p ↦ absurd (cc (h, p))
    ]

opening_inside : (ts : Tokens) (i j k l : ℕ) → Pairs ts i j → i < k → k < j → Pairs ts k l → (i < l) × (l < j)
opening_inside ts i j k l h above below pair =
    let o = pairs_opens ts k l pair in
    let less = pairs_below ts k l pair in
    elim (open_or_paired ts j k o.0 o.1 below) [
      | inl has ↦ let le = innermost ts i j k h has in absurd (omega (arith, le, above))
      | inr found ↦
          let lt = found.1 in
          let is = closed_once ts k l found.0 pair found.2 in
          (omega (arith, above, less), omega (arith, lt, is))
    ]

closing_inside : (ts : Tokens) (i j k l : ℕ) → Pairs ts i j → i < k → k < j → Pairs ts l k → (i < l) × (l < j)
closing_inside ts i j k l h above below pair =
    let o = pairs_opens ts i j h in
    let less = pairs_below ts l k pair in
    elim (open_or_paired ts k i o.0 o.1 above) [
      | inl has ↦
          let le = innermost ts l k i pair has in
          let ne : i ≢ l = λ e.
          let P : ℕ → Type 0 = λ m. Pairs ts m j in
          let is = closed_once ts l j k (subst P e h) pair in omega (arith, is, below) in
          (omega (arith, le, ne), omega (arith, less, below))
      | inr found ↦
          let lt = found.1 in
          let is = closed_once ts i j found.0 h found.2 in
          absurd (omega (arith, lt, is, below))
    ]

pub inside : (ts : Tokens) (i j k l : ℕ) → Pairs ts i j → i < k → k < j → ArePartners ts k l → (i < l) × (l < j)
inside ts i j k l h above below partner =
    elim partner [ inl pair ↦ opening_inside ts i j k l h above below pair | inr pair ↦ closing_inside ts i j k l h above below pair ]

paired_by : (ts : Tokens) (i j k : ℕ) → Pairs ts i j → i < k → k < j → (o : Bracket) → bracket_at ts k ≡ o → IsOpening o → (l : ℕ) × Pairs ts k l
paired_by ts i j k h above below (b.Opens form) e is =
    elim (open_or_paired ts j k form e below) [
      | inl has ↦ let le = innermost ts i j k h has in absurd (omega (arith, le, above))
      | inr found ↦ (found.0, found.2)
    ]
paired_by ts i j k h above below (b.Closes form) e is = absurd is
paired_by ts i j k h above below b.Other e is = absurd is

pub inside_paired : (ts : Tokens) (i j k : ℕ) → Pairs ts i j → i < k → k < j → IsOpening (bracket_at ts k) → (l : ℕ) × Pairs ts k l
inside_paired ts i j k h above below is = paired_by ts i j k h above below (bracket_at ts k) refl is

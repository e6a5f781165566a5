-- What a whole scan tells: the first flaw, or all partners.
use Rattle.std.proofs.Common.{◌≡◌, ◌<◌, ◌≤◌, ◌==◌, ℕ, zero, suc, Bool, true, false, nat_lt, if◌then◌else◌, List, [], ◌∷◌, ◌++◌, length, reverse, Option, Some, None, refl, sym, ap, subst, ◌∙◌, inl, inr, arith}
use Rattle.std.proofs.lemmas.List.{reverse-append, reverse-reverse}
use Rattle.std.proofs.lemmas.Grind.{common_steps}
use Rattle.std.proofs.lemmas.Bool.{cases_lt}
use Rattle.kotlin_brackets.specs.declared.stack.Form.{Form}
use Rattle.kotlin_brackets.specs.declared.stack.Bracket.{Bracket}
use Rattle.kotlin_brackets.specs.declared.stack.Bracket.TheVariants as b
use Rattle.kotlin_brackets.specs.declared.stack.Opened.{Opened}
use Rattle.kotlin_brackets.specs.declared.flaws.Flaw.{Flaw}
use Rattle.kotlin_brackets.specs.declared.flaws.Flaw.TheVariants as w
use Rattle.kotlin_brackets.specs.declared.flaws.Flawed.{Flawed}
use Rattle.kotlin_brackets.specs.declared.scanning.Scan.{Scan}
use Rattle.kotlin_brackets.specs.Brackets.{Tokens, bracket_at, Open, closed_by, open_before, Pairs, IsOpening, IsBracket, IsLonely, IsTooDeep, IsFlawed, IsFirstThere, IsFirst, IsFirstFlaw}
use Rattle.kotlin_brackets.specs.Steps.{lonely, flaw_of, told, first_before, IsScan, least_flaw}
use Rattle.kotlin_brackets.proofs.Nesting.{Turn, turn, split_suc, Nested, nested, Has, has_below, has_opens, pairs_opens, pairs_closes, pairs_within, bracket_within, unpaired, open_or_paired}
use Rattle.kotlin_brackets.proofs.Scans.{first_more}

-- ---- the flaw that a bracket has as soon as it is read

abbrev pub flaw_at : Tokens → ℕ → Option Flaw
flaw_at ts n = flaw_of (open_before ts n) (bracket_at ts n)

pub record NoFlawYet (ts : Tokens) (n : ℕ) : Type 0 where
  pub shallow : IsTooDeep ts n → ⊥
  pub closes : (form : Form) → bracket_at ts n ≡ b.Closes form → IsLonely ts n → ⊥

pub closing_lonely : (ts : Tokens) (n : ℕ) (form : Form) → bracket_at ts n ≡ b.Closes form → closed_by (open_before ts n) (bracket_at ts n) ≡ None → IsLonely ts n
closing_lonely ts n form e p =
    let P : Bracket → Type 0 = λ k. IsBracket k in (
      subst P (sym e) tt,
      λ k partner. elim partner [
        | inl h ↦ let o = (pairs_opens ts n k h).1 in cc (o, e)
        | inr h ↦ cc (h, p)
      ],
    )

pairs_not_lonely : (ts : Tokens) (i j : ℕ) → Pairs ts i j → IsLonely ts j → ⊥
pairs_not_lonely ts i j h alone = alone.1 i (inr h)

opens_at : (ts : Tokens) (n : ℕ) (form : Form) → bracket_at ts n ≡ b.Opens form → flaw_at ts n ≡ flaw_of (open_before ts n) (b.Opens form)
opens_at ts n form e = ap (λ (k : Bracket). flaw_of (open_before ts n) k) e

closes_at : (ts : Tokens) (n : ℕ) (form : Form) (found : Option ℕ) → bracket_at ts n ≡ b.Closes form → closed_by (open_before ts n) (bracket_at ts n) ≡ found → flaw_at ts n ≡ lonely found
closes_at ts n form found e p =
    ap (λ (k : Bracket). flaw_of (open_before ts n) k) e
    ∙ ap lonely (sym (ap (λ (k : Bracket). closed_by (open_before ts n) k) e) ∙ p)

deep_if : (v : Bool) (flaw : Flaw) → (if v then Some w.TooDeep else None) ≡ Some flaw → (v ≡ true) × (flaw ≡ w.TooDeep)
deep_if true flaw h = (refl, cc)
deep_if false flaw h = absurd (cc)

shallow_if : (v : Bool) → (if v then Some w.TooDeep else None) ≡ None → v ≡ false
shallow_if true h = absurd (cc)
shallow_if false h = refl

pub flaw_is : (ts : Tokens) (n : ℕ) (flaw : Flaw) → flaw_at ts n ≡ Some flaw → IsFlawed ts n flaw
flaw_is ts n flaw h =
    let P : Flaw → Type 0 = λ z. IsFlawed ts n z in
    let Q : Bracket → Type 0 = λ k. IsOpening k in
    elim (turn ts n) [
      | Turn.Opens form e g p ↦
          let d = deep_if (length (open_before ts n) == 1600) flaw (sym (opens_at ts n form e) ∙ h) in
          subst P (sym d.1) (subst Q (sym e) tt, let test = d.0 in grind (arith, common_steps))
      | Turn.Pairs_with x xs form e f g p ↦ let none = closes_at ts n form (Some x.number) e p in absurd (cc (none, h))
      | Turn.Closes_none form e g p ↦
          let some = closes_at ts n form None e p in
          let is : w.Lonely ≡ flaw = cc (some, h) in
          subst P is (closing_lonely ts n form e p)
      | Turn.Passes e g p ↦ let none = ap (λ (k : Bracket). flaw_of (open_before ts n) k) e in absurd (cc (none, h))
    ]

pub no_flaw_is : (ts : Tokens) (n : ℕ) → flaw_at ts n ≡ None → NoFlawYet ts n
no_flaw_is ts n h =
    let Q : Bracket → Type 0 = λ k. IsOpening k in
    elim (turn ts n) [
      | Turn.Opens form e g p ↦
          let test = shallow_if (length (open_before ts n) == 1600) (sym (opens_at ts n form e) ∙ h) in
          record {
            shallow = λ deep. let long = deep.1 in let R : ℕ → Type 0 = λ k. (k == 1600) ≡ false in let t = subst R long test in cc (t);
            closes = λ k is alone. cc (is, e);
          }
      | Turn.Pairs_with x xs form e f g p ↦ record {
        shallow = λ deep. subst Q e deep.0;
        closes = λ k is alone. pairs_not_lonely ts x.number n p alone;
      }
      | Turn.Closes_none form e g p ↦ let some = closes_at ts n form None e p in absurd (cc (some, h))
      | Turn.Passes e g p ↦ record {
        shallow = λ deep. subst Q e deep.0;
        closes = λ k is alone. cc (is, e);
      }
    ]

-- ---- the first of them

abbrev pub NoneBelow : Tokens → ℕ → Type 0
NoneBelow ts n = (k : ℕ) → k < n → flaw_at ts k ≡ None

abbrev pub FirstIs : Tokens → ℕ → Option Flawed → Type 0
FirstIs ts n None = NoneBelow ts n
FirstIs ts n (Some x) = (x.number < n) × (flaw_at ts x.number ≡ Some x.flaw) × NoneBelow ts x.number

told_is : (ts : Tokens) (n : ℕ) (first : Option Flawed) (flaw : Option Flaw) → FirstIs ts n first → flaw_at ts n ≡ flaw → FirstIs ts (suc n) (told first n flaw)
told_is ts n (Some x) flaw h e = (let lt = h.0 in omega (arith, lt), h.1, h.2)
told_is ts n None (Some flaw) h e = (omega arith, e, h)
told_is ts n None None h e = λ k lt. elim (split_suc k n lt) [
  | inl less ↦ h k less
  | inr at ↦ let P : ℕ → Type 0 = λ j. flaw_at ts j ≡ None in subst P (sym at) e
]

none_first : (ts : Tokens) → first_before ts zero ≡ None
unfolding first_before
none_first ts = refl

pub first_is : (ts : Tokens) (n : ℕ) → FirstIs ts n (first_before ts n)
first_is ts zero =
    let P : Option Flawed → Type 0 = λ x. FirstIs ts zero x in
    subst P (sym (none_first ts)) (λ k lt. absurd (omega (arith, lt)))
first_is ts (suc n) =
    let P : Option Flawed → Type 0 = λ x. FirstIs ts (suc n) x in
    subst P (sym (first_more ts n)) (told_is ts n (first_before ts n) (flaw_at ts n) (first_is ts n) refl)

-- ---- the outermost of those that are left

has_last : (ys : Open) (x : Opened) → Has x.number (ys ++ x ∷ [])
has_last [] x = inl refl
has_last (y ∷ ys) x = inr (has_last ys x)

outermost_least : (ts : Tokens) (n : ℕ) (ys : Open) (x : Opened) (i : ℕ) → Nested ts n (ys ++ x ∷ []) → Has i (ys ++ x ∷ []) → x.number ≤ i
outermost_least ts n [] x i h has = elim has [ inl e ↦ omega (arith, e) | inr more ↦ absurd more ]
outermost_least ts n (y ∷ ys) x i h has =
    let deeper = h.3 in
    elim has [
      | inl e ↦ let lt = has_below ts y.number (ys ++ x ∷ []) x.number deeper (has_last ys x) in omega (arith, e, lt)
      | inr more ↦ outermost_least ts y.number ys x i deeper more
    ]

-- the brackets that are left open, the outermost first
abbrev pub LeftIs : Tokens → List Opened → Type 0
LeftIs ts [] = (i : ℕ) (form : Form) → bracket_at ts i ≡ b.Opens form → (j : ℕ) × Pairs ts i j
LeftIs ts (x ∷ xs) = IsLonely ts x.number × ((i : ℕ) (form : Form) → bracket_at ts i ≡ b.Opens form → IsLonely ts i → x.number ≤ i)

pub opens_within : (ts : Tokens) (i : ℕ) (form : Form) → bracket_at ts i ≡ b.Opens form → i < length ts
opens_within ts i form e = bracket_within ts i (λ o. cc (o, e))

pub left_lonely : (ts : Tokens) (i : ℕ) → Has i (open_before ts (length ts)) → IsLonely ts i
left_lonely ts i has =
    let o = has_opens ts (length ts) (open_before ts (length ts)) i (nested ts (length ts)) has in
    let P : Bracket → Type 0 = λ k. IsBracket k in (
      subst P (sym o.1) tt,
      λ k partner. elim partner [
        | inl h ↦ unpaired ts (length ts) i k has (pairs_within ts i k h) h
        | inr h ↦ let c = pairs_closes ts k i h in let e = c.1 in let f = o.1 in cc (e, f)
      ],
    )

turned : (xs left : Open) → reverse left ≡ xs → left ≡ reverse xs
turned xs left e = sym (reverse-reverse left) ∙ ap reverse e

left_by : (ts : Tokens) (left : List Opened) → open_before ts (length ts) ≡ reverse left → LeftIs ts left
left_by ts [] e = λ i form is.
    elim (open_or_paired ts (length ts) i form is (opens_within ts i form is)) [
      | inl has ↦ let P : Open → Type 0 = λ ys. Has i ys in absurd (subst P e has)
      | inr pair ↦ (pair.0, pair.2)
    ]
left_by ts (x ∷ xs) e =
    let is : open_before ts (length ts) ≡ reverse xs ++ x ∷ [] = e ∙ reverse-append (x ∷ []) xs in
    let N : Open → Type 0 = λ ys. Nested ts (length ts) ys in (
      left_lonely ts x.number (let P : Open → Type 0 = λ ys. Has x.number ys in subst P (sym is) (has_last (reverse xs) x)),
      λ i form at alone.
          elim (open_or_paired ts (length ts) i form at (opens_within ts i form at)) [
            | inl has ↦ let P : Open → Type 0 = λ ys. Has i ys in
                outermost_least ts (length ts) (reverse xs) x i (subst N is (nested ts (length ts))) (subst P is has)
            | inr pair ↦ absurd (alone.1 pair.0 (inl pair.2))
          ],
    )

-- ---- the first flaw of all

abbrev pub Told : Tokens → Option Flawed → Type 0
Told ts None = (n : ℕ) (flaw : Flaw) → IsFlawed ts n flaw → ⊥
Told ts (Some x) = IsFirst ts x.number x.flaw

fine_lonely : (ts : Tokens) (n : ℕ) → NoFlawYet ts n → ((form : Form) → bracket_at ts n ≡ b.Opens form → IsLonely ts n → ⊥) → (k : Bracket) → bracket_at ts n ≡ k → IsLonely ts n → ⊥
fine_lonely ts n none opens (b.Opens form) e h = opens form e h
fine_lonely ts n none opens (b.Closes form) e h = none.closes form e h
fine_lonely ts n none opens b.Other e h = let P : Bracket → Type 0 = λ k. IsBracket k in subst P e h.0

-- a token of neither an early flaw nor a bracket that is left open is fine
fine : (ts : Tokens) (n : ℕ) → NoFlawYet ts n → ((form : Form) → bracket_at ts n ≡ b.Opens form → IsLonely ts n → ⊥) → (flaw : Flaw) → IsFlawed ts n flaw → ⊥
fine ts n none opens w.TooDeep h = none.shallow h
fine ts n none opens w.Lonely h = fine_lonely ts n none opens (bracket_at ts n) refl h

-- those before a number at which the outermost one left stands at the earliest
fine_below : (ts : Tokens) (n : ℕ) (k : ℕ) → k < n → NoneBelow ts n → ((form : Form) → bracket_at ts k ≡ b.Opens form → IsLonely ts k → n ≤ k)
    → (flaw : Flaw) → IsFlawed ts k flaw → ⊥
fine_below ts n k lt none opens = fine ts k (no_flaw_is ts k (none k lt)) (λ form e alone. let le = opens form e alone in omega (arith, le, lt))

outer_first : (ts : Tokens) (x : Opened) (xs : List Opened) → LeftIs ts (x ∷ xs) → NoneBelow ts x.number → IsFirst ts x.number w.Lonely
outer_first ts x xs left none = (left.0, tt, λ k other lt h. fine_below ts x.number k lt none (left.1 k) other h)

opening : (ts : Tokens) (n m : ℕ) → n < m → flaw_at ts n ≡ Some w.TooDeep
    → ((form : Form) → bracket_at ts n ≡ b.Opens form → IsLonely ts n → m ≤ n) → IsLonely ts n → (k : Bracket) → bracket_at ts n ≡ k → ⊥
opening ts n m lt e opens alone (b.Opens form) is = let le = opens form is alone in omega (arith, le, lt)
opening ts n m lt e opens alone (b.Closes form) is =
    let P : Bracket → Type 0 = λ k. IsOpening k in subst P is (flaw_is ts n w.TooDeep e).0
opening ts n m lt e opens alone b.Other is =
    let P : Bracket → Type 0 = λ k. IsOpening k in subst P is (flaw_is ts n w.TooDeep e).0

early_alone : (ts : Tokens) (n m : ℕ) (flaw : Flaw) → n < m → flaw_at ts n ≡ Some flaw
    → ((form : Form) → bracket_at ts n ≡ b.Opens form → IsLonely ts n → m ≤ n) → IsFirstThere ts n flaw
early_alone ts n m w.Lonely lt e opens = tt
early_alone ts n m w.TooDeep lt e opens = λ alone. opening ts n m lt e opens alone (bracket_at ts n) refl

early_first : (ts : Tokens) (n m : ℕ) (flaw : Flaw) → n < m → flaw_at ts n ≡ Some flaw → NoneBelow ts n
    → ((i : ℕ) (form : Form) → bracket_at ts i ≡ b.Opens form → IsLonely ts i → m ≤ i) → IsFirst ts n flaw
early_first ts n m flaw lt e none opens = (
  flaw_is ts n flaw e,
  early_alone ts n m flaw lt e (opens n),
  λ k other less h. fine_below ts n k less none (λ form is alone. let le = opens k form is alone in omega (arith, le, lt)) other h,
)

choose : (ts : Tokens) (n : ℕ) (x : Opened) (xs : List Opened) (y : Flawed) → LeftIs ts (x ∷ xs) → FirstIs ts n (Some y) → (v : Bool) → nat_lt y.number x.number ≡ v
    → Told ts (if v then Some y else Some (record { number = x.number; flaw = w.Lonely }))
choose ts n x xs y left first true h = early_first ts y.number x.number y.flaw (grind (arith, common_steps)) first.1 first.2 left.1
choose ts n x xs y left first false h =
    let ge : x.number ≤ y.number = grind (arith, common_steps) in
    outer_first ts x xs left (λ k lt. first.2 k (omega (arith, lt, ge)))

opens_below : (ts : Tokens) (i : ℕ) (form : Form) → ((i : ℕ) (form : Form) → bracket_at ts i ≡ b.Opens form → (j : ℕ) × Pairs ts i j) → bracket_at ts i ≡ b.Opens form → IsLonely ts i → ⊥
opens_below ts i form all e alone = let pair = all i form e in alone.1 pair.0 (inl pair.1)

past_fine : (ts : Tokens) (n : ℕ) → length ts ≤ n → (flaw : Flaw) → IsFlawed ts n flaw → ⊥
past_fine ts n le w.Lonely h =
    let lt = bracket_within ts n (λ e. let P : Bracket → Type 0 = λ k. IsBracket k in subst P e h.0) in omega (arith, lt, le)
past_fine ts n le w.TooDeep h =
    let lt = bracket_within ts n (λ e. let P : Bracket → Type 0 = λ k. IsOpening k in subst P e h.0) in omega (arith, lt, le)

judged : (ts : Tokens) (left : List Opened) (first : Option Flawed) → LeftIs ts left → FirstIs ts (length ts) first → Told ts (least_flaw left first)
judged ts [] None left first = λ n flaw h.
    elim (cases_lt n (length ts)) [
      | inl lt ↦ fine ts n (no_flaw_is ts n (first n lt)) (λ form e alone. opens_below ts n form left e alone) flaw h
      | inr ge ↦ past_fine ts n ge flaw h
    ]
judged ts [] (Some y) left first =
    early_first ts y.number (suc y.number) y.flaw (omega arith) first.1 first.2 (λ i form e alone. absurd (opens_below ts i form left e alone))
judged ts (x ∷ xs) None left first =
    let alone = left.0 in
    let lt = bracket_within ts x.number (λ e. let P : Bracket → Type 0 = λ k. IsBracket k in subst P e alone.0) in
    outer_first ts x xs left (λ k less. first k (omega (arith, less, lt)))
judged ts (x ∷ xs) (Some y) left first = choose ts (length ts) x xs y left first (nat_lt y.number x.number) refl

pub scan_judged : (ts : Tokens) (scan : Scan) → IsScan ts (length ts) scan → Told ts (least_flaw scan.stack.items scan.first)
scan_judged ts scan s =
    let P : Option Flawed → Type 0 = λ first. FirstIs ts (length ts) first in
    judged ts scan.stack.items scan.first (left_by ts scan.stack.items (sym s.stack)) (subst P (sym s.first) (first_is ts (length ts)))

-- Where none is left open and none has a flaw as soon as it is read, none has one.
pub all_paired : (ts : Tokens) → open_before ts (length ts) ≡ [] → first_before ts (length ts) ≡ None → IsFirstFlaw ts None
all_paired ts left first =
    let P : Option Flawed → Type 0 = λ z. FirstIs ts (length ts) z in
    judged ts [] None (left_by ts [] left) (subst P first (first_is ts (length ts)))

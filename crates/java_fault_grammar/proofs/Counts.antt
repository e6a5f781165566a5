-- Brackets that open and that close: in tokens of which none is at fault, and in runs.
use Rattle.std.proofs.Common.{◌≡◌, ◌≤◌, ◌+◌, ℕ, zero, suc, Bool, true, false, [], ◌∷◌, ◌++◌, length, None, inl, inr, refl, ap, sym, subst, arith}
use Rattle.java_tree.specs.declared.tokens.Position.{Position}
use Rattle.java_tree.specs.declared.tokens.Mark.TheVariants as m
use Rattle.java_tree.specs.declared.tokens.Keyword.TheVariants as w
use Rattle.java_tree.specs.Seen.{Token, Tokens}
use Rattle.java_brackets.specs.declared.stack.Form.{Form}
use Rattle.java_brackets.specs.declared.stack.Bracket.{Bracket}
use Rattle.java_brackets.specs.declared.stack.Bracket.TheVariants as b
use Rattle.java_brackets.specs.declared.stack.Opened.{Opened}
use Rattle.java_brackets.specs.declared.flaws.Flaw.{Flaw}
use Rattle.java_brackets.specs.declared.flaws.Flaw.TheVariants as f
use Rattle.java_brackets.specs.Brackets.{bracket, bracket_at, closed_by, Open, open_before, Pairs, IsBracket, IsLonely, IsFlawed}
use Rattle.java_brackets.proofs.LawsToCite.{Turn, turn, nested, Has, has_opens, pairs_opens, pairs_within, unpaired}
use Rattle.java_fault_grammar.specs.Runs.{End, Run, Kind, kind, Place, outside, closed, inside, turned_by, turned, run_turn, run_from}
use Rattle.java_fault_grammar.specs.Runs as runs

-- ---- counts over tokens

abbrev pub opening : Bracket → ℕ
opening (b.Opens form) = 1
opening _ = 0

abbrev pub closing : Bracket → ℕ
closing (b.Closes form) = 1
closing _ = 0

abbrev pub total : (Bracket → ℕ) → Tokens → ℕ
total count [] = 0
total count (x ∷ ts) = count (bracket x) + total count ts

pub total_append : (count : Bracket → ℕ) (xs ys : Tokens) → total count (xs ++ ys) ≡ total count xs + total count ys
total_append count [] ys = omega arith
total_append count (x ∷ xs) ys = let e = total_append count xs ys in omega (arith, e)

-- of the tokens before a number
abbrev total_before : (Bracket → ℕ) → Tokens → ℕ → ℕ
total_before count ts zero = 0
total_before count ts (suc n) = total_before count ts n + count (bracket_at ts n)

first_is : (x : Token) (ts : Tokens) → bracket_at (x ∷ ts) 0 ≡ bracket x
unfolding bracket_at
first_is x ts = refl

later_is : (x : Token) (ts : Tokens) (n : ℕ) → bracket_at (x ∷ ts) (suc n) ≡ bracket_at ts n
unfolding bracket_at
later_is x ts n = refl

before_more : (count : Bracket → ℕ) (x : Token) (ts : Tokens) (n : ℕ) → total_before count (x ∷ ts) (suc n) ≡ count (bracket x) + total_before count ts n
before_more count x ts zero = let e = ap count (first_is x ts) in omega (arith, e)
before_more count x ts (suc n) = let e = ap count (later_is x ts n) in let h = before_more count x ts n in omega (arith, e, h)

all_before : (count : Bracket → ℕ) (ts : Tokens) → total_before count ts (length ts) ≡ total count ts
all_before count [] = refl
all_before count (x ∷ ts) = let h = all_before count ts in let e = before_more count x ts (length ts) in omega (arith, e, h)

-- ---- where no token is at fault, as many close as open

abbrev pub Flawless : Tokens → Type 0
Flawless ts = (n : ℕ) (flaw : Flaw) → ¬ IsFlawed ts n flaw

closing_partner : (ts : Tokens) (n : ℕ) (form : Form) → bracket_at ts n ≡ b.Closes form → closed_by (open_before ts n) (bracket_at ts n) ≡ None → IsLonely ts n
closing_partner ts n form e p =
    let P : Bracket → Type 0 = IsBracket in
    (subst P (sym e) tt, λ k h. elim h [ inl g ↦ let o = pairs_opens ts n k g in let is = o.1 in cc (e, is) | inr g ↦ cc (p, g) ])

opening_partner : (ts : Tokens) (n : ℕ) (x : Opened) (xs : Open) → open_before ts n ≡ x ∷ xs → length ts ≤ n → IsLonely ts x.number
opening_partner ts n x xs e le =
    let H : Open → Type 0 = λ ys. Has x.number ys in
    let has : Has x.number (open_before ts n) = subst H (sym e) (inl refl) in
    let o = has_opens ts n (open_before ts n) x.number (nested ts n) has in
    let is = o.1 in (
      subst IsBracket (sym is) tt,
      λ k h. elim h [
        | inl g ↦ let in_ts = pairs_within ts x.number k g in unpaired ts n x.number k has (omega (arith, in_ts, le)) g
        | inr g ↦ let c = closed_at ts k x.number g in let other = c.1 in cc (is, other)
      ],
    )
  where
    closed_at : (ts : Tokens) (i j : ℕ) → Pairs ts i j → (form : Form) × (bracket_at ts j ≡ b.Closes form)
    closed_at ts i j g =
        elim (turn ts j) [
          | Turn.Opens form e g' p ↦ absurd (cc (g, p))
          | Turn.Pairs_with y ys form e f g' p ↦ (form, e)
          | Turn.Closes_none form e g' p ↦ absurd (cc (g, p))
          | Turn.Passes e g' p ↦ absurd (cc (g, p))
        ]

none_yet : (ts : Tokens) → open_before ts zero ≡ []
unfolding open_before
none_yet ts = refl

-- how many are open
balance : (ts : Tokens) → Flawless ts → (n : ℕ) → total_before opening ts n ≡ total_before closing ts n + length (open_before ts n)
balance ts sound zero = let l : length (open_before ts zero) ≡ 0 = ap length (none_yet ts) in omega (arith, l)
balance ts sound (suc n) =
    let ih = balance ts sound n in
    elim (turn ts n) [
      | Turn.Opens form e g p ↦
          let o = ap opening e in
          let c = ap closing e in
          let l = ap length g in
          omega (arith, ih, o, c, l)
      | Turn.Pairs_with x xs form e h g p ↦
          let o = ap opening e in
          let c = ap closing e in
          let l = ap length g in
          let k = ap length h in
          omega (arith, ih, o, c, l, k)
      | Turn.Closes_none form e g p ↦ absurd (sound n f.Lonely (closing_partner ts n form e p))
      | Turn.Passes e g p ↦
          let o = ap opening e in
          let c = ap closing e in
          let l = ap length g in
          omega (arith, ih, o, c, l)
    ]

none_open : (ts : Tokens) → Flawless ts → (xs : Open) → open_before ts (length ts) ≡ xs → length xs ≡ 0
none_open ts sound [] e = refl
none_open ts sound (x ∷ xs) e = absurd (sound x.number f.Lonely (opening_partner ts (length ts) x xs e (omega arith)))

pub as_many : (ts : Tokens) → Flawless ts → total opening ts ≡ total closing ts
as_many ts sound =
    let e = balance ts sound (length ts) in
    let z = none_open ts sound (open_before ts (length ts)) refl in
    omega (arith, e, z, all_before opening ts, all_before closing ts)

-- ---- runs

abbrev opening_kind : Kind → ℕ
opening_kind Kind.OpenCurly = 1
opening_kind Kind.Opens = 1
opening_kind _ = 0

abbrev closing_kind : Kind → ℕ
closing_kind Kind.CloseCurly = 1
closing_kind Kind.Closes = 1
closing_kind _ = 0

kinds : (x : Token) → (opening (bracket x) ≡ opening_kind (kind x)) × (closing (bracket x) ≡ closing_kind (kind x))
kinds (Token.Sign m.OpenRound at) = (refl, refl)
kinds (Token.Sign m.OpenSquare at) = (refl, refl)
kinds (Token.Sign m.OpenCurly at) = (refl, refl)
kinds (Token.Sign m.CloseRound at) = (refl, refl)
kinds (Token.Sign m.CloseSquare at) = (refl, refl)
kinds (Token.Sign m.CloseCurly at) = (refl, refl)
kinds (Token.Sign m.Semicolon at) = (refl, refl)
kinds (Token.Sign m.Assign at) = (refl, refl)
kinds (Token.Sign mark at) = (refl, refl)
kinds (Token.Word w.Class at) = (refl, refl)
kinds (Token.Word w.Interface at) = (refl, refl)
kinds (Token.Word w.Enum at) = (refl, refl)
kinds (Token.Word word at) = (refl, refl)
kinds (Token.Id n at) = (refl, refl)
kinds (Token.Literal literal at) = (refl, refl)
kinds (Token.ArrowBody at span) = (refl, refl)
kinds (Token.CloseBody at span) = (refl, refl)

-- one where the last token is a `{`
abbrev left_kind : Kind → ℕ
left_kind Kind.OpenCurly = 1
left_kind _ = 0

abbrev pub last : ℕ → Tokens → ℕ
last n [] = n
last n (x ∷ ts) = last (left_kind (kind x)) ts

last_append : (n : ℕ) (xs ys : Tokens) → last n (xs ++ ys) ≡ last (last n xs) ys
last_append n [] ys = refl
last_append n (x ∷ xs) ys = last_append (left_kind (kind x)) xs ys

-- what a token of a kind does where n brackets are open
abbrev Does : ℕ → Kind → runs.Turn → Type 0
Does n k (runs.Turn.On q) = (closing_kind k + q.depth ≡ n + opening_kind k) × (left_kind k ≤ q.depth)
Does n k (runs.Turn.Stop end) = closing_kind k + left_kind k ≤ n + opening_kind k
Does n k runs.Turn.Left = Unit {0}

does_close : (n : ℕ) (e t v : Bool) → Does (suc n) Kind.CloseCurly (closed n e t v)
does_close zero false t v = (refl, omega arith)
does_close zero true t v = omega arith
does_close (suc n) e t v = (omega arith, omega arith)

does : (n : ℕ) (e t v : Bool) (k : Kind) → Does n k (turned_by n e t v k)
does zero e false v Kind.OpenCurly = (refl, omega arith)
does zero e true v Kind.OpenCurly = omega arith
does zero e t v Kind.CloseCurly = tt
does zero e t v Kind.Opens = (refl, omega arith)
does zero e t v Kind.Closes = tt
does zero e t v Kind.Semicolon = omega arith
does zero e t v Kind.Assign = (refl, omega arith)
does zero e t false Kind.Declares = (refl, omega arith)
does zero e t true Kind.Declares = (refl, omega arith)
does zero e t v Kind.Other = (refl, omega arith)
does (suc n) e t v Kind.OpenCurly = (omega arith, omega arith)
does (suc n) e t v Kind.CloseCurly = does_close n e t v
does (suc n) e t v Kind.Opens = (omega arith, omega arith)
does (suc n) e t v Kind.Closes = (omega arith, omega arith)
does (suc n) e t v Kind.Semicolon = (omega arith, omega arith)
does (suc n) e t v Kind.Assign = (omega arith, omega arith)
does (suc n) e t v Kind.Declares = (omega arith, omega arith)
does (suc n) e t v Kind.Other = (omega arith, omega arith)

abbrev Counted : ℕ → ℕ → Run → Type 0
Counted n k r = total closing r.text + last k r.text ≤ n + total opening r.text

run_counts : (p : Place) (ts : Tokens) (k : ℕ) → k ≤ p.depth → Counted p.depth k (run_from p ts)
unfolding run_from
run_counts p [] k le = omega (arith, le)
run_counts p (x ∷ ts) k le = go (turned p (kind x)) (does p.depth p.ends p.is_type p.has_value (kind x)) (λ q le. run_counts q ts (left_kind (kind x)) le)
  where
    go : (t : runs.Turn) → Does p.depth (kind x) t → ((q : Place) → left_kind (kind x) ≤ q.depth → Counted q.depth (left_kind (kind x)) (run_from q ts))
        → Counted p.depth k (run_turn x ts t (λ q. run_from q ts))
    go (runs.Turn.On q) d ih =
        let s = kinds x in
        let h = ih q d.1 in
        let o = s.0 in
        let c = s.1 in
        let e = d.0 in
        omega (arith, h, o, c, e)
    go (runs.Turn.Stop end) d ih =
        let s = kinds x in
        let o = s.0 in
        let c = s.1 in
        omega (arith, d, o, c)
    go runs.Turn.Left d ih = omega (arith, le)

-- A run opens what it closes, and one bracket more where it ends with a `{`.
pub text_counts : (ts text : Tokens) → (runs.run ts).text ≡ text → total closing text + last 0 text ≤ total opening text
text_counts ts text e =
    let P : Tokens → Type 0 = λ l. total closing l + last 0 l ≤ total opening l in
    let h = run_counts runs.start ts 0 (omega arith) in
    subst P e (omega (arith, h))

pub last_left : (xs : Tokens) (at : Position) → last 0 (xs ++ Token.Sign m.OpenCurly at ∷ []) ≡ 1
last_left xs at = last_append 0 xs (Token.Sign m.OpenCurly at ∷ [])

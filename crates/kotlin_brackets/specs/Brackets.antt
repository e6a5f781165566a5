-- Which brackets pair, and which is the first at fault. The brackets are the marks ( ) [ ] { }.
use Rattle.std.specs.Prelude.{◌≡◌, ◌<◌, ◌⊎◌, ℕ, zero, suc, Bool, true, false, if◌then◌else◌, List, [], ◌∷◌, length, slice_get, Option, Some, None}
use Rattle.kotlin_tree.specs.declared.tokens.Mark.{Mark}
use Rattle.kotlin_tree.specs.declared.tokens.Mark.TheVariants as m
use Rattle.kotlin_tree.specs.declared.tokens.TokenKind.{TokenKind}
use Rattle.kotlin_tree.specs.declared.tokens.TokenKind.TheVariants as kinds
use Rattle.kotlin_tree.specs.declared.tokens.KToken.{KToken}
use Rattle.kotlin_brackets.specs.declared.stack.Form.{Form}
use Rattle.kotlin_brackets.specs.declared.stack.Form.TheVariants as f
use Rattle.kotlin_brackets.specs.declared.stack.Bracket.{Bracket}
use Rattle.kotlin_brackets.specs.declared.stack.Bracket.TheVariants as b
use Rattle.kotlin_brackets.specs.declared.stack.Opened.{Opened}
use Rattle.kotlin_brackets.specs.declared.flaws.Flaw.{Flaw}
use Rattle.kotlin_brackets.specs.declared.flaws.Flaw.TheVariants as w
use Rattle.kotlin_brackets.specs.declared.flaws.Flawed.{Flawed}

abbrev pub Tokens : Type 0
Tokens = List KToken

-- what a mark is among brackets
abbrev pub bracket_mark : Mark → Bracket
bracket_mark m.OpenRound = b.Opens f.Round
bracket_mark m.OpenSquare = b.Opens f.Square
bracket_mark m.OpenCurly = b.Opens f.Curly
bracket_mark m.CloseRound = b.Closes f.Round
bracket_mark m.CloseSquare = b.Closes f.Square
bracket_mark m.CloseCurly = b.Closes f.Curly
bracket_mark _ = b.Other

-- what a token is among brackets
abbrev pub bracket : TokenKind → Bracket
bracket (kinds.Mark mark) = bracket_mark mark
bracket _ = b.Other

abbrev pub bracket_of : Option KToken → Bracket
bracket_of (Some token) = bracket token.kind
bracket_of None = b.Other

-- what the token of a number is
unfoldable pub bracket_at : Tokens → ℕ → Bracket
bracket_at ts n = bracket_of (slice_get ts n)

abbrev pub same : Form → Form → Bool
same f.Round f.Round = true
same f.Square f.Square = true
same f.Curly f.Curly = true
same _ _ = false

-- The brackets that are open, each with the number of its token. The innermost comes first.
abbrev pub Open : Type 0
Open = List Opened

-- A closing bracket pairs with the innermost open one where that has its form, and else with nothing:
-- the number of the one that it pairs with,
abbrev pub closed_by : Open → Bracket → Option ℕ
closed_by (x ∷ xs) (b.Closes form) = if same x.form form then Some x.number else None
closed_by _ _ = None

-- and those that are open behind the token n, which is this bracket.
abbrev pub after : Open → ℕ → Bracket → Open
after xs n (b.Opens form) = record { number = n; form = form } ∷ xs
after (x ∷ xs) n (b.Closes form) = if same x.form form then xs else x ∷ xs
after xs n _ = xs

-- those that are open before the token of a number
unfoldable pub open_before : Tokens → ℕ → Open
open_before ts zero = []
open_before ts (suc n) = after (open_before ts n) n (bracket_at ts n)

-- the brackets at i and j pair: the one at j closes the one at i
abbrev pub Pairs : Tokens → ℕ → ℕ → Type 0
Pairs ts i j = closed_by (open_before ts j) (bracket_at ts j) ≡ Some i

abbrev pub IsOpening : Bracket → Type 0
IsOpening (b.Opens form) = Unit {0}
IsOpening _ = ⊥

abbrev pub IsBracket : Bracket → Type 0
IsBracket b.Other = ⊥
IsBracket _ = Unit {0}

-- one of the two closes the other
abbrev pub ArePartners : Tokens → ℕ → ℕ → Type 0
ArePartners ts i j = Pairs ts i j ⊎ Pairs ts j i

-- ---- flaws

-- the token n is a bracket without a partner
abbrev pub IsLonely : Tokens → ℕ → Type 0
IsLonely ts n = IsBracket (bracket_at ts n) × ((k : ℕ) → ¬ ArePartners ts n k)

-- the token n is the 1,601st bracket that is open at once
abbrev pub IsTooDeep : Tokens → ℕ → Type 0
IsTooDeep ts n = IsOpening (bracket_at ts n) × (length (open_before ts n) ≡ 1600)

abbrev pub IsFlawed : Tokens → ℕ → Flaw → Type 0
IsFlawed ts n w.Lonely = IsLonely ts n
IsFlawed ts n w.TooDeep = IsTooDeep ts n

-- of two flaws of one token, the one with no partner comes first
abbrev pub IsFirstThere : Tokens → ℕ → Flaw → Type 0
IsFirstThere ts n w.Lonely = Unit {0}
IsFirstThere ts n w.TooDeep = ¬ IsLonely ts n

-- the first flaw: no earlier token has one
abbrev pub IsFirst : Tokens → ℕ → Flaw → Type 0
IsFirst ts n flaw = IsFlawed ts n flaw × IsFirstThere ts n flaw × ((k : ℕ) (other : Flaw) → k < n → ¬ IsFlawed ts k other)

-- the first flaw, or that there is none
abbrev pub IsFirstFlaw : Tokens → Option Flawed → Type 0
IsFirstFlaw ts (Some x) = IsFirst ts x.number x.flaw
IsFirstFlaw ts None = (n : ℕ) (flaw : Flaw) → ¬ IsFlawed ts n flaw

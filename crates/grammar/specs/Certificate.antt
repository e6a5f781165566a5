-- What shows that one kind ahead decides: which kinds begin a form, which may follow it, and how many steps it takes.
use Rattle.std.specs.Prelude.{◌≡◌, ◌≤◌, ◌+◌, ◌*◌, ℕ, Bool, true, false, if◌then◌else◌, List, [], ◌∷◌, Some}
use Rattle.grammar.specs.declared.symbols.Symbol.{Symbol}
use Rattle.grammar.specs.declared.symbols.Symbol.TheVariants as y
use Rattle.grammar.specs.Grammar.{Grammar}
use Rattle.grammar.specs.Machine.{Choice}

pub record Certificate (Token Kind Term Form : Type 0) : Type 0 where
  -- the kinds that a terminal takes
  pub accepts : Term → Kind → Bool
  -- the kind of the end of all tokens
  pub is_end : Kind → Bool
  -- the kinds that may begin a form that takes tokens
  pub begins : Form → Kind → Bool
  -- whether a form may take none
  pub may_be_empty : Form → Bool
  -- the kinds that may follow a form
  pub follows : Form → Kind → Bool
  -- how many steps a form takes besides those that its tokens pay for
  pub weight : Form → ℕ
  -- how much of tokens is left: a terminal takes at least one of it
  pub size : List Token → ℕ

-- a token pays for so many steps
abbrev pub paid : ℕ
paid = 64

abbrev pub implies : Bool → Bool → Bool
implies true b = b
implies false b = true

-- whether the kind may come first of a form, where it says whether it may follow
abbrev pub form_first : {Token Kind Term Form : Type 0} → Certificate Token Kind Term Form → Form → Bool → Kind → Bool
form_first r n after k = if r.begins n k then true else (if r.may_be_empty n then after else false)

module _ {Token Kind Term Form Act : Type 0} (r : Certificate Token Kind Term Form) where
  -- the same of symbols
  abbrev pub first : List (Symbol Term Form Act) → Bool → Kind → Bool
  first [] after k = after
  first (y.Term t ∷ s) after k = r.accepts t k
  first (y.Act a ∷ s) after k = first s after k
  first (y.Form n ∷ s) after k = form_first r n (first s after k) k

  -- each form among the symbols may be followed by the kind where it stands behind it there
  abbrev pub may_follow : Bool → List (Symbol Term Form Act) → Kind → Bool
  may_follow after [] k = true
  may_follow after (y.Term t ∷ s) k = may_follow after s k
  may_follow after (y.Act a ∷ s) k = may_follow after s k
  may_follow after (y.Form n ∷ s) k = if implies (first s after k) (r.follows n k) then may_follow after s k else false

  abbrev pub weight_of : List (Symbol Term Form Act) → ℕ
  weight_of [] = 0
  weight_of (y.Term t ∷ s) = 1 + weight_of s
  weight_of (y.Act a ∷ s) = 1 + weight_of s
  weight_of (y.Form n ∷ s) = r.weight n + weight_of s

abbrev pub terms : {Term Form Act : Type 0} → List (Symbol Term Form Act) → ℕ
terms [] = 0
terms (y.Term t ∷ s) = 1 + terms s
terms (y.Act a ∷ s) = terms s
terms (y.Form n ∷ s) = terms s

-- One kind ahead decides each form. The first six are tests of each way with each kind, which compute; the last three are of the tokens.
pub record IsDecided {Token Kind Term Form Way Act Built : Type 0} (g : Grammar Token Term Form Way Act Built) (c : Choice Token Kind Form Way)
    (r : Certificate Token Kind Term Form) : Type 0 where
  -- a way that is chosen writes the form
  pub owned : (n : Form) (k : Kind) → g.owner (c.choose n k) ≡ n
  -- what begins a way begins its form
  pub closed : (w : Way) (after : Bool) (k : Kind) → first r (g.written w) after k ≡ true → form_first r (g.owner w) after k ≡ true
  -- what follows a form in a way may follow it
  pub followed : (w : Way) (k : Kind) → may_follow r (r.follows (g.owner w) k) (g.written w) k ≡ true
  -- a way that may stand ahead of a kind is the one that it chooses
  pub chosen : (w : Way) (k : Kind) → first r (g.written w) (r.follows (g.owner w) k) k ≡ true → c.choose (g.owner w) k ≡ w
  -- the weights are large enough
  pub heavy : (w : Way) → 1 + weight_of r (g.written w) ≤ r.weight (g.owner w) + paid * terms (g.written w)
  -- a terminal takes the kinds that it accepts, and something of the tokens
  pub accepted : (t : Term) (b : Built) (ts : List Token) (x : Built × List Token) → g.takes t b ts ≡ Some x → r.accepts t (c.kind ts) ≡ true
  pub shorter : (t : Term) (b : Built) (ts : List Token) (x : Built × List Token) → g.takes t b ts ≡ Some x → r.size x.1 + 1 ≤ r.size ts
  pub ended : r.is_end (c.kind []) ≡ true

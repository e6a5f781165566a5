-- What the reading of brackets knows on its way, a token at a time.
use Rattle.std.specs.Prelude.{◌≡◌, ◌==◌, ℕ, zero, suc, if◌then◌else◌, List, [], ◌∷◌, length, reverse, nat_lt, Option, Some, None}
use Rattle.kotlin_brackets.specs.declared.stack.Bracket.{Bracket}
use Rattle.kotlin_brackets.specs.declared.stack.Bracket.TheVariants as b
use Rattle.kotlin_brackets.specs.declared.stack.Opened.{Opened}
use Rattle.kotlin_brackets.specs.declared.flaws.Flaw.{Flaw}
use Rattle.kotlin_brackets.specs.declared.flaws.Flaw.TheVariants as w
use Rattle.kotlin_brackets.specs.declared.flaws.Flawed.{Flawed}
use Rattle.kotlin_brackets.specs.declared.scanning.Scan.{Scan}
use Rattle.kotlin_brackets.specs.Brackets.{Tokens, Open, bracket_at, open_before, closed_by}

abbrev pub lonely : Option ℕ → Option Flaw
lonely None = Some w.Lonely
lonely (Some i) = None

-- what is wrong with a bracket as far as those before it tell
abbrev pub flaw_of : Open → Bracket → Option Flaw
flaw_of xs (b.Opens form) = if length xs == 1600 then Some w.TooDeep else None
flaw_of xs (b.Closes form) = lonely (closed_by xs (b.Closes form))
flaw_of xs b.Other = None

abbrev pub told : Option Flawed → ℕ → Option Flaw → Option Flawed
told (Some x) n flaw = Some x
told None n (Some flaw) = Some (record { number = n; flaw = flaw })
told None n None = None

unfoldable pub first_before : Tokens → ℕ → Option Flawed
first_before ts zero = None
first_before ts (suc n) = told (first_before ts n) n (flaw_of (open_before ts n) (bracket_at ts n))

pub record IsScan (ts : Tokens) (n : ℕ) (scan : Scan) : Type 0 where
  pub stack : reverse scan.stack.items ≡ open_before ts n
  pub first : scan.first ≡ first_before ts n

-- the first flaw, where these are left open, the outermost first
abbrev pub least_flaw : List Opened → Option Flawed → Option Flawed
least_flaw [] seen = seen
least_flaw (x ∷ xs) None = Some (record { number = x.number; flaw = w.Lonely })
least_flaw (x ∷ xs) (Some y) = if nat_lt y.number x.number then Some y else Some (record { number = x.number; flaw = w.Lonely })

-- What the laws of the definitions say.
use Rattle.std.specs.Prelude.{if◌then◌else◌, ◌≡◌, ℕ, ◌+◌, ◌-◌, ◌*◌, ◌<◌, ◌≤◌, Bool, true, false, [], ◌∷◌, length, take}
use Rattle.kotlin_tree.specs.declared.tokens.Mark.{Mark}
use Rattle.kotlin_tree.specs.Spellings.{mark_text}
use Rattle.kotlin_characters.specs.Letters.{Letters, letter, stop}
use Rattle.kotlin_characters.specs.Scans.{head, drop_letters}
use Rattle.kotlin_lexer.specs.Numbers.{is_digit}

-- no letter that passes p is left at the front (own rule)
abbrev pub Stops : (ℕ → Bool) → Letters → Type 0
Stops p (letter c q rest) = p c ≡ false
Stops p (stop e q) = Unit {0}

-- the rest is the text without its letters that pass p, as many as there are at its front (own rule)
pub record IsLongest (p : ℕ → Bool) (t rest : Letters) : Type 0 where
  pub taken : ℕ
  pub behind : rest ≡ drop_letters taken t
  pub each : (k : ℕ) → k < taken → p (head (drop_letters k t)) ≡ true
  pub stops : Stops p rest

-- the value of the digits at the front of a text, behind digits of value v (own rule)
abbrev pub exact_value : ℕ → Letters → ℕ
exact_value v (letter c p rest) = if is_digit c then exact_value (v * 10 + (c - 48)) rest else v
exact_value v (stop e q) = v

-- a mark of n + 1 characters stands at the front of three, and no longer one does (own rule)
pub record IsLongestMark (c d e : ℕ) (m : Mark) (n : ℕ) : Type 0 where
  pub spelled : take (n + 1) (c ∷ d ∷ e ∷ []) ≡ mark_text m
  pub no_longer : (k : Mark) → take (length (mark_text k)) (c ∷ d ∷ e ∷ []) ≡ mark_text k → length (mark_text k) ≤ n + 1

-- What the laws of the definitions say.
use Rattle.std.specs.Prelude.{if◌then◌else◌, ◌*◌, ◌≡◌, ℕ, ◌+◌, ◌<◌, ◌≤◌, Bool, true, false, ◌&&◌, ◌==◌, [], ◌∷◌, length, take}
use Rattle.java_tree.specs.declared.tokens.Mark.{Mark}
use Rattle.java_tree.specs.Spellings.{mark_text}
use Rattle.std.specs.Char.{digit_value}
use Rattle.java_characters.specs.Letters.{Letters, letter, stop}
use Rattle.java_characters.specs.Scans.{head, tail, drop_letters}
use Rattle.java_lexer.specs.Numbers.{in_radix}

-- no letter that passes p is left at the front (own rule)
abbrev pub Stops : (ℕ → Bool) → Letters → Type 0
Stops p (letter c q rest) = p c ≡ false
Stops p (stop e q) = Unit {0}

-- the rest is the text without its letters that pass p, as many as there are at its front (own rule)
pub record IsLongest (p : ℕ → Bool) (t rest : Letters) : Type 0 where
  pub taken : ℕ
  pub behind : rest ≡ drop_letters taken t
  pub each : (k : ℕ) → k < taken → p (head (drop_letters k t)) ≡ true
  pub stops : Stops p rest

-- `*/` stands there (own rule)
abbrev pub closes : Letters → Bool
closes t = (head t == 42) && (head (tail t) == 47)

-- the first `*/` stands behind n letters (own rule)
pub record IsFirstClose (t : Letters) (n : ℕ) : Type 0 where
  pub here : closes (drop_letters n t) ≡ true
  pub not_before : (k : ℕ) → k < n → closes (drop_letters k t) ≡ false

-- where a text ends (own rule)
abbrev pub end_of : Letters → Letters
end_of (letter c q rest) = end_of rest
end_of (stop e q) = stop e q

-- the value of digits with one more digit or `_` (JLS 3.10.1)
abbrev pub exact_with : ℕ → ℕ → ℕ → ℕ
exact_with r v c = if c == 95 then v else v * r + digit_value c

-- the value of the digits at the front of a text, behind digits of value v (own rule)
abbrev pub exact_value : ℕ → ℕ → Letters → ℕ
exact_value r v (letter c p rest) = if in_radix r c then exact_value r (exact_with r v c) rest else v
exact_value r v (stop e q) = v

-- a mark of n + 1 characters stands at the front of three, and no longer one does (own rule)
pub record IsLongestMark (c d e : ℕ) (m : Mark) (n : ℕ) : Type 0 where
  pub spelled : take (n + 1) (c ∷ d ∷ e ∷ []) ≡ mark_text m
  pub no_longer : (k : Mark) → take (length (mark_text k)) (c ∷ d ∷ e ∷ []) ≡ mark_text k → length (mark_text k) ≤ n + 1

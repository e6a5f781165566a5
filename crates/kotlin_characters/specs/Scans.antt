-- How a text goes on: its first letter, and runs of letters.
use Rattle.std.specs.Prelude.{ℕ, zero, suc, Bool, if◌then◌else◌}
use Rattle.kotlin_tree.specs.declared.places.Position.{Position}
use Rattle.kotlin_characters.specs.Letters.{Letters, letter, stop}

-- a text's first letter, 0 where it ends (own rule)
abbrev pub head : Letters → ℕ
head (letter c p rest) = c
head (stop e q) = 0

-- a text without its first letter (own rule)
abbrev pub tail : Letters → Letters
tail (letter c p rest) = rest
tail (stop e q) = stop e q

-- where a text begins (own rule)
abbrev pub place_of : Letters → Position
place_of (letter c p rest) = p
place_of (stop e q) = q

-- a text without its first letters that pass p (own rule)
abbrev pub drop_while : (ℕ → Bool) → Letters → Letters
drop_while p (letter c q rest) = if p c then drop_while p rest else letter c q rest
drop_while p (stop e q) = stop e q

-- a text without its first n letters (own rule)
abbrev pub drop_letters : ℕ → Letters → Letters
drop_letters zero t = t
drop_letters (suc n) (letter c p rest) = drop_letters n rest
drop_letters (suc n) (stop e q) = stop e q

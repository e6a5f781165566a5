-- Integer literals (Kotlin, "Integer literals", those of the profile).
use Rattle.std.specs.Prelude.{ℕ, ◌+◌, ◌-◌, ◌*◌, ◌^◌, min, Bool, ◌&&◌, ◌==◌, nat_lt, if◌then◌else◌}
use Rattle.std.specs.Int.{is_in_range}
use Rattle.kotlin_tree.specs.declared.places.Position.{Position}
use Rattle.kotlin_tree.specs.declared.tokens.TokenKind.TheVariants.{Integer, Long}
use Rattle.kotlin_characters.specs.Letters.{Letters, letter, stop}
use Rattle.kotlin_characters.specs.Scans.{head, tail, drop_while}
use Rattle.kotlin_lexer.specs.declared.found.Code.TheVariants.{Form, Large}
use Rattle.kotlin_lexer.specs.Found.{Cut, fault, token}

-- a decimal digit (Kotlin, "Integer literals")
abbrev pub is_digit : ℕ → Bool
is_digit c = is_in_range 48 57 c

-- the value of digits with one more digit, where 2 ^ 64 stands for all that is larger (Kotlin, "Integer literals")
abbrev pub value_with : ℕ → ℕ → ℕ
value_with v c = min (v * 10 + (c - 48)) (2 ^ 64)

-- the value of the digits at the front of a text, behind digits of value v (Kotlin, "Integer literals")
abbrev pub number_value : ℕ → Letters → ℕ
number_value v (letter c p rest) = if is_digit c then number_value (value_with v c) rest else v
number_value v (stop e q) = v

-- An Int literal is at most 2147483647 (own rule).
abbrev pub integer_piece : Position → ℕ → Letters → Cut
integer_piece p v t = if nat_lt v (2 ^ 31) then token (Integer v) p t else fault Large p t

-- A Long literal is at most 9223372036854775807 (own rule).
abbrev pub long_piece : Position → ℕ → Letters → Cut
long_piece p v t = if nat_lt v (2 ^ 63) then token (Long v) p t else fault Large p t

-- a literal behind its digits: `L` makes it a Long (Kotlin, "Integer literals")
abbrev pub whole_piece : Position → ℕ → Letters → Cut
whole_piece p v t = if head t == 76 then long_piece p v (tail t) else integer_piece p v t

-- A literal that begins with the digit c: no digit stands behind a leading zero (Kotlin, "Integer literals").
unfoldable pub number_piece : Position → ℕ → Letters → Cut
number_piece p c rest =
    if (c == 48) && is_digit (head rest) then fault Form p (drop_while is_digit rest)
    else whole_piece p (number_value (c - 48) rest) (drop_while is_digit rest)

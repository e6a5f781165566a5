-- Character and String literals with their escapes (Kotlin, "Character literals", "String literals"). Each unit has one spelling (own rule).
use Rattle.std.specs.Prelude.{ℕ, zero, suc, ◌+◌, ◌*◌, Bool, false, not, ◌&&◌, ◌||◌, ◌==◌, List, [], ◌∷◌, ◌++◌, if◌then◌else◌, Option, Some, None}
use Rattle.std.specs.Int.{is_in_range}
use Rattle.std.specs.Char.{digit_value}
use Rattle.kotlin_tree.specs.declared.places.Position.{Position}
use Rattle.kotlin_tree.specs.declared.tokens.TokenKind.TheVariants.{Character, Text}
use Rattle.kotlin_characters.specs.Letters.{Letters, letter, stop}
use Rattle.kotlin_characters.specs.Scans.{head, tail, drop_while, drop_letters}
use Rattle.kotlin_lexer.specs.declared.found.Code.TheVariants.{Form}
use Rattle.kotlin_lexer.specs.declared.literals.Quote.{Quote}
use Rattle.kotlin_lexer.specs.declared.literals.Quote.TheVariants.{Single, Double}
use Rattle.kotlin_lexer.specs.declared.literals.Quoted.{Quoted}
use Rattle.kotlin_lexer.specs.declared.literals.Quoted.TheVariants as quoted
use Rattle.kotlin_lexer.specs.Found.{Cut, fault, token, unformed}

-- the mark at both ends of a literal
abbrev pub mark_of : Quote → ℕ
mark_of Single = 39
mark_of Double = 34

-- a `$` of a String literal, where it would begin a template (Kotlin, "String templates")
abbrev pub is_dollar : Quote → ℕ → Bool
is_dollar Single c = false
is_dollar Double c = c == 36

-- U+0020 to U+007E stand for themselves, but for `\`, the literal's mark and a `$` of a String (own rule).
abbrev pub is_plain : Quote → ℕ → Bool
is_plain quote c = is_in_range 32 126 c && not (is_dollar quote c)

-- the unit of an escape of one letter: `\b`, `\t`, `\n`, `\r`, `\\`, the literal's mark and, in a String, `\$`
abbrev pub simple_of : Quote → ℕ → Option ℕ
simple_of quote c =
    if c == 98 then Some 8
    else if c == 116 then Some 9
    else if c == 110 then Some 10
    else if c == 114 then Some 13
    else if c == 92 then Some 92
    else if (c == mark_of quote) || is_dollar quote c then Some c
    else None

-- a hexadecimal digit in upper case (own rule)
abbrev pub is_hex : ℕ → Bool
is_hex c = is_in_range 48 57 c || is_in_range 65 70 c

-- a unit with no other spelling than `\u` and its code (own rule)
abbrev pub needs_code : ℕ → Bool
needs_code u = not (is_in_range 32 126 u) && not ((u == 8) || ((u == 9) || ((u == 10) || (u == 13))))

-- the unit that four digits write
abbrev pub coded : ℕ → ℕ → ℕ → ℕ → Option ℕ
coded a b c d =
    let u = ((digit_value a * 16 + digit_value b) * 16 + digit_value c) * 16 + digit_value d in
    if is_hex a && (is_hex b && (is_hex c && is_hex d)) then (if needs_code u then Some u else None) else None

-- the unit of a `\u`, by the text behind it
abbrev pub code_of : Letters → Option ℕ
code_of t = coded (head t) (head (tail t)) (head (tail (tail t))) (head (tail (tail (tail t))))

-- a unit of so many letters behind the first
abbrev pub unit_of : Option ℕ → ℕ → Quoted
unit_of None n = quoted.BadEscape
unit_of (Some u) n = quoted.Unit u n

-- what a backslash means, by the text behind it
unfoldable pub escape_of : Quote → Letters → Quoted
escape_of quote t = if head t == 117 then unit_of (code_of (tail t)) 5 else unit_of (simple_of quote (head t)) 1

-- What a letter of a literal means, with the text behind it.
unfoldable pub meaning_of : Quote → ℕ → Letters → Quoted
meaning_of quote c rest =
    if c == mark_of quote then quoted.Close
    else if c == 92 then escape_of quote rest
    else if is_plain quote c then quoted.Unit c 0
    else quoted.Bad

-- where an escape fails, behind its backslash: behind the digits of a `\u`, else at once (own rule)
abbrev pub escape_rest : Letters → Letters
escape_rest t = if head t == 117 then drop_while is_hex (tail t) else t

-- a String literal, by what its next letter means
abbrev pub string_turn : Position → List ℕ → Quoted → Letters → Letters → (ℕ → List ℕ → Cut) → Cut
string_turn p units quoted.Close t rest more = token (Text units) p rest
string_turn p units quoted.Bad t rest more = fault Form p t
string_turn p units quoted.BadEscape t rest more = unformed Form p (escape_rest rest)
string_turn p units (quoted.Unit u n) t rest more = more n (units ++ u ∷ [])

-- A String literal behind these units of it, of whose last one so many letters are left.
abbrev pub string_at : Position → ℕ → List ℕ → Letters → Cut
string_at p zero units (stop e q) = unformed Form p (stop e q)
string_at p (suc n) units (stop e q) = unformed Form p (stop e q)
string_at p zero units (letter c q rest) = string_turn p units (meaning_of Double c rest) (letter c q rest) rest (λ n us. string_at p n us rest)
string_at p (suc n) units (letter c q rest) = string_at p n units rest

-- a String literal behind its opening mark
unfoldable pub string_piece : Position → Letters → Cut
string_piece p t = string_at p 0 [] t

-- a character literal is closed behind its unit
abbrev pub closed : Position → ℕ → Letters → Cut
closed p u t = if head t == 39 then token (Character u) p (tail t) else unformed Form p t

-- a character literal, by what its first letter means
abbrev pub character_turn : Position → Quoted → Letters → Letters → Cut
character_turn p quoted.Close t rest = fault Form p rest
character_turn p quoted.Bad t rest = fault Form p t
character_turn p quoted.BadEscape t rest = unformed Form p (escape_rest rest)
character_turn p (quoted.Unit u n) t rest = closed p u (drop_letters n rest)

-- a character literal behind its opening mark
unfoldable pub character_piece : Position → Letters → Cut
character_piece p (stop e q) = unformed Form p (stop e q)
character_piece p (letter c q rest) = character_turn p (meaning_of Single c rest) (letter c q rest) rest

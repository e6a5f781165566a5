-- Character and String literals with their escapes.
use Rattle.std.specs.Prelude.{ℕ, zero, suc, ◌+◌, ◌-◌, ◌*◌, ◌/◌, ◌%◌, Bool, not, ◌&&◌, ◌||◌, ◌==◌, nat_lt, List, [], ◌∷◌, ◌++◌, if◌then◌else◌, Option, Some, None}
use Rattle.std.specs.Int.{is_in_range}
use Rattle.java_tree.specs.declared.tokens.Position.{Position}
use Rattle.java_tree.specs.declared.tokens.TokenKind.TheVariants.{Character, Text}
use Rattle.java_lexer.specs.declared.found.Code.TheVariants.{Form}
use Rattle.java_lexer.specs.declared.literals.Quoted.{Quoted}
use Rattle.java_lexer.specs.declared.literals.Quoted.TheVariants.{Close, Bad, BadEscape, One, Two}
use Rattle.java_characters.specs.Letters.{Letters, letter, stop}
use Rattle.java_characters.specs.Scans.{head, tail, drop_letters}
use Rattle.java_lexer.specs.Found.{Cut, fault, token}

-- a line terminator, also one that an escape wrote (JLS 3.4)
abbrev pub is_line_end : ℕ → Bool
is_line_end c = (c == 10) || (c == 13)

-- an octal digit (JLS 3.10.1)
abbrev pub is_octal : ℕ → Bool
is_octal c = is_in_range 48 55 c

-- The unit of a longest octal escape, and how many letters it takes (JLS 3.10.6).
abbrev pub octal_of : ℕ → ℕ → ℕ → Option (ℕ × ℕ)
octal_of a b c =
    if is_octal b
    then (if is_octal c && nat_lt a 52 then Some (((a - 48) * 8 + (b - 48)) * 8 + (c - 48), 3) else Some ((a - 48) * 8 + (b - 48), 2))
    else Some (a - 48, 1)

-- The unit that an escape's letter behind the backslash stands for (JLS 3.10.6).
abbrev pub simple_of : ℕ → Option (ℕ × ℕ)
simple_of c =
    if c == 98 then Some (8, 1)
    else if c == 116 then Some (9, 1)
    else if c == 110 then Some (10, 1)
    else if c == 102 then Some (12, 1)
    else if c == 114 then Some (13, 1)
    else if (c == 34) || ((c == 39) || (c == 92)) then Some (c, 1)
    else None

-- the unit of the escape whose text behind the backslash this is, and how many letters that takes (JLS 3.10.6)
unfoldable pub escape_of : Letters → Option (ℕ × ℕ)
escape_of t = if is_octal (head t) then octal_of (head t) (head (tail t)) (head (tail (tail t))) else simple_of (head t)

-- the unit of an escape (JLS 3.10.6)
abbrev pub escaped : Option (ℕ × ℕ) → Quoted
escaped None = BadEscape
escaped (Some e) = One e.0 e.1

-- The UTF-16 units of a character (JLS 3.1).
abbrev pub units_of : ℕ → Quoted
units_of c = if nat_lt c 0x1_0000 then One c 0 else Two (0xD800 + (c - 0x1_0000) / 0x400) (0xDC00 + (c - 0x1_0000) % 0x400)

-- What a letter of a String literal means, with the text behind it (JLS 3.10.5).
unfoldable pub meaning_of : ℕ → Letters → Quoted
meaning_of c rest =
    if c == 34 then Close
    else if is_line_end c then Bad
    else if c == 92 then escaped (escape_of rest)
    else units_of c

-- a String literal, by what its next letter means (JLS 3.10.5)
abbrev pub string_turn : Position → List ℕ → Quoted → Letters → Letters → (ℕ → List ℕ → Cut) → Cut
string_turn p units Close t rest more = token (Text units) p rest
string_turn p units Bad t rest more = fault Form p t
string_turn p units BadEscape t rest more = fault Form p rest
string_turn p units (One u n) t rest more = more n (units ++ u ∷ [])
string_turn p units (Two u v) t rest more = more 0 (units ++ u ∷ v ∷ [])

-- A String literal behind these units of it, of whose last escape so many letters are left (JLS 3.10.5).
abbrev pub string_at : Position → ℕ → List ℕ → Letters → Cut
string_at p zero units (stop e q) = fault Form p (stop e q)
string_at p (suc n) units (stop e q) = fault Form p (stop e q)
string_at p zero units (letter c q rest) = string_turn p units (meaning_of c rest) (letter c q rest) rest (λ n us. string_at p n us rest)
string_at p (suc n) units (letter c q rest) = string_at p n units rest

-- a String literal behind its opening mark (JLS 3.10.5)
unfoldable pub string_piece : Position → Letters → Cut
string_piece p t = string_at p 0 [] t

-- a character literal is closed behind its unit (JLS 3.10.4)
abbrev pub closed : Position → ℕ → Letters → Cut
closed p u t = if head t == 39 then token (Character u) p (tail t) else fault Form p t

-- A character that stands for itself in a character literal is one unit (JLS 3.10.4).
abbrev pub is_single : ℕ → Bool
is_single c = not (c == 39) && (not (is_line_end c) && nat_lt c 0x1_0000)

-- a character literal behind its escape (JLS 3.10.4)
abbrev pub escaped_piece : Position → Option (ℕ × ℕ) → Letters → Cut
escaped_piece p None t = fault Form p t
escaped_piece p (Some e) t = closed p e.0 (drop_letters e.1 t)

-- a character literal behind its opening mark (JLS 3.10.4)
unfoldable pub character_piece : Position → Letters → Cut
character_piece p (stop e q) = fault Form p (stop e q)
character_piece p (letter c q rest) =
    if c == 92 then escaped_piece p (escape_of rest) rest
    else if is_single c then closed p c rest
    else fault Form p (letter c q rest)

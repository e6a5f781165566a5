-- How names, literals and comments are spelled.
use Rattle.std.specs.Prelude.{ℕ, ◌+◌, ◌/◌, ◌%◌, nat_eq, nat_lt, nat_le, Bool, true, false, ◌&&◌, ◌||◌, if◌then◌else◌, List, [], ◌∷◌, ◌++◌, codes}
use Rattle.std.specs.Fmt.{decimal}
use Rattle.std.specs.List.{flat_map, list_all, list_any}
use Rattle.kotlin_words.specs.Words.{hard_keywords, contains_word}
use Rattle.kotlin_tree.specs.declared.expressions.KLiteral.{KLiteral}
use Rattle.kotlin_tree.specs.declared.expressions.KLiteral.TheVariants as literal

-- ---- names

-- the other words that are no name without backticks (own rule)
abbrev pub other_keywords : List (List ℕ)
other_keywords = codes "catch" ∷ codes "finally" ∷ codes "synchronized" ∷ []

abbrev pub is_past_ascii : ℕ → Bool
is_past_ascii byte = nat_lt 127 byte

abbrev pub is_underscore : ℕ → Bool
is_underscore byte = nat_eq byte 95

abbrev pub is_keyword : List ℕ → Bool
is_keyword n = contains_word hard_keywords n || contains_word other_keywords n

-- a name past ASCII, and one of `_` alone
abbrev pub is_odd : List ℕ → Bool
is_odd n = list_any is_past_ascii n || list_all is_underscore n

-- whether a name stands in backticks
abbrev pub is_quoted : List ℕ → Bool
is_quoted n = is_keyword n || is_odd n

unfoldable pub name_text : List ℕ → List ℕ
name_text n = if is_quoted n then codes "`" ++ n ++ codes "`" else n

-- ---- units of characters and Strings (Kotlin, "Character literals", "String literals")

-- an upper-case hexadecimal digit
abbrev pub hex_digit : ℕ → ℕ
hex_digit digit = if nat_lt digit 10 then digit + 48 else digit + 55

abbrev pub hex_text : ℕ → List ℕ
hex_text unit = hex_digit (unit / 4096 % 16) ∷ hex_digit (unit / 256 % 16) ∷ hex_digit (unit / 16 % 16) ∷ hex_digit (unit % 16) ∷ []

-- U+0020 to U+007E
abbrev pub is_printable : ℕ → Bool
is_printable unit = nat_le 32 unit && nat_le unit 126

-- a unit that isn't printable
abbrev pub control_text : ℕ → List ℕ
control_text unit =
    if nat_eq unit 9 then codes "\\t" else
    if nat_eq unit 8 then codes "\\b" else
    if nat_eq unit 10 then codes "\\n" else
    if nat_eq unit 13 then codes "\\r" else codes "\\u" ++ hex_text unit

-- a printable unit, and whether a backslash stands before it
abbrev pub printable_text : Bool → ℕ → List ℕ
printable_text true unit = 92 ∷ unit ∷ []
printable_text false unit = unit ∷ []

abbrev pub unit_text : Bool → ℕ → List ℕ
unit_text is_escaped unit = if is_printable unit then printable_text is_escaped unit else control_text unit

-- `\` and `'`
abbrev pub escaped_in_character : ℕ → Bool
escaped_in_character unit = nat_eq unit 92 || nat_eq unit 39

-- `\`, `"` and `$`
abbrev pub escaped_in_string : ℕ → Bool
escaped_in_string unit = nat_eq unit 92 || nat_eq unit 34 || nat_eq unit 36

abbrev pub string_unit_text : ℕ → List ℕ
string_unit_text unit = unit_text (escaped_in_string unit) unit

unfoldable pub literal_text : KLiteral → List ℕ
literal_text (literal.Integer n) = decimal n
literal_text (literal.Long n) = decimal n ++ codes "L"
literal_text (literal.Character unit) = codes "'" ++ unit_text (escaped_in_character unit) unit ++ codes "'"
literal_text (literal.Text units) = codes "\"" ++ flat_map string_unit_text units ++ codes "\""
literal_text literal.True = codes "true"
literal_text literal.False = codes "false"
literal_text literal.Null = codes "null"

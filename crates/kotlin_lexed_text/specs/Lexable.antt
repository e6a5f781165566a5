-- Which texts are cut into the tokens that stand in them: names are identifiers, each token ends where the next part begins, and no line ends
-- directly within parentheses or square brackets.
use Rattle.std.specs.Prelude.{◌≡◌, ◌⊎◌, ℕ, zero, suc, ◌+◌, ◌-◌, ◌^◌, Bool, true, false, not, ◌&&◌, ◌||◌, ◌==◌, nat_lt, length, if◌then◌else◌, List, [], ◌∷◌, Option, Some, None, encode_utf8_all}
use Rattle.std.specs.Str.{all_scalars}
use Rattle.std.specs.Char.{is_ascii_alphanumeric}
use Rattle.std.specs.List.{list_all}
use Rattle.kotlin_tree.specs.declared.tokens.Mark.{Mark}
use Rattle.kotlin_tree.specs.declared.tokens.Mark.TheVariants as m
use Rattle.kotlin_tree.specs.declared.tokens.TokenKind.TheVariants as q
use Rattle.kotlin_tree.specs.declared.expressions.KLiteral.{KLiteral}
use Rattle.kotlin_tree.specs.declared.expressions.KLiteral.TheVariants as literal
use Rattle.kotlin_tree.specs.Spellings.{mark_text}
use Rattle.kotlin_lexer.specs.Names.{is_start, is_continue}
use Rattle.kotlin_lexer.specs.declared.nesting.Bracket.{Bracket}
use Rattle.kotlin_lexer.specs.declared.nesting.Bracket.TheVariants as b
use Rattle.kotlin_lexer.specs.Nesting.{Open, is_listed, closes_innermost, bracket_mark, open_behind}
use Rattle.kotlin_lexer.specs.declared.pieces.Class.TheVariants as classes
use Rattle.kotlin_lexer.specs.Pieces.{is_in}
use Rattle.kotlin_layout.specs.declared.glyphs.Glyph.{Glyph}
use Rattle.kotlin_layout.specs.declared.glyphs.Glyph.TheVariants as g
use Rattle.kotlin_layout.specs.Roles.{Role, Roles}
use Rattle.kotlin_layout.specs.Names.{is_quoted}

-- ---- names, comments and literals

-- The bytes are a character that may begin an identifier and characters that may go on with one (Kotlin, "Identifiers").
pub record IsIdentifier (n : List ℕ) : Type 0 where
  pub first : ℕ
  pub more : List ℕ
  pub bytes : n ≡ encode_utf8_all (first ∷ more)
  pub scalars : all_scalars (first ∷ more) ≡ true
  pub starts : is_start first ≡ true
  pub goes_on : list_all is_continue more ≡ true

-- a unit of 16 bits
abbrev pub is_unit : ℕ → Bool
is_unit u = nat_lt u (2 ^ 16)

-- The literal is one of the profile: an Int is at most 2147483647 and a Long at most 9223372036854775807 (Kotlin, "Integer literals"), a character
-- is a unit, a String consists of units.
abbrev pub is_literal : KLiteral → Bool
is_literal (literal.Integer n) = nat_lt n (2 ^ 31)
is_literal (literal.Long n) = nat_lt n (2 ^ 63)
is_literal (literal.Character u) = is_unit u
is_literal (literal.Text us) = list_all is_unit us
is_literal literal.True = true
is_literal literal.False = true
is_literal literal.Null = true

-- `//`, and no end of a line behind it (Kotlin, "Whitespace and comments")
pub record IsLineComment (text : List ℕ) : Type 0 where
  pub characters : List ℕ
  pub bytes : text ≡ 47 ∷ 47 ∷ encode_utf8_all characters
  pub scalars : all_scalars characters ≡ true
  pub on_a_line : list_all (is_in classes.Line) characters ≡ true

abbrev pub first_character : List ℕ → ℕ
first_character [] = 0
first_character (c ∷ cs) = c

abbrev pub is_one : List ℕ → Bool
is_one (c ∷ []) = true
is_one _ = false

-- With n more comments open within, and so many characters of a mark left, these characters end with the closing mark of the outermost one, and it
-- stands nowhere before: comments nest (Kotlin, "Whitespace and comments").
unfoldable pub closes : ℕ → ℕ → List ℕ → Bool
closes k n [] = false
closes (suc k) n (c ∷ cs) = closes k n cs
closes zero n (c ∷ cs) =
    if (c == 42) && (first_character cs == 47) then (if n == 0 then is_one cs else closes 1 (n - 1) cs)
    else if (c == 47) && (first_character cs == 42) then closes 1 (n + 1) cs
    else closes 0 n cs

-- `/*` to the `*/` that closes it
pub record IsBlockComment (text : List ℕ) : Type 0 where
  pub characters : List ℕ
  pub bytes : text ≡ 47 ∷ 42 ∷ encode_utf8_all characters
  pub scalars : all_scalars characters ≡ true
  pub closed : closes 0 0 characters ≡ true

abbrev pub IsComment : List ℕ → Type 0
IsComment text = IsLineComment text ⊎ IsBlockComment text

-- ---- where a token ends

-- the first byte of a text, and of what stands behind it where it is empty
abbrev pub first_of : List ℕ → Option ℕ → Option ℕ
first_of [] behind = behind
first_of (b ∷ bs) behind = Some b

-- ---- with what a part begins, as far as it tells where the part before it ends: with its first byte, with `_` for any letter of a name, with `0` for
-- any digit, and with no byte of ASCII for what isn't looked at

abbrev pub glyph_first : Glyph → Option ℕ → Option ℕ
glyph_first (g.Mark x) behind = first_of (mark_text x) None
glyph_first (g.Keyword x) behind = Some 95
glyph_first (g.Word x) behind = Some 95
glyph_first g.Semicolon behind = Some 59
glyph_first g.Blank behind = Some 32
glyph_first g.Line behind = Some 10
glyph_first g.Deeper behind = behind
glyph_first g.Shallower behind = behind

abbrev pub literal_first : KLiteral → ℕ
literal_first (literal.Integer x) = 48
literal_first (literal.Long x) = 48
literal_first (literal.Character x) = 39
literal_first (literal.Text x) = 34
literal_first literal.True = 95
literal_first literal.False = 95
literal_first literal.Null = 95

abbrev pub role_first : Role → Option ℕ → Option ℕ
role_first (Role.Fixed x) behind = glyph_first x behind
role_first (Role.Name n) behind = Some (if is_quoted n then 96 else 95)
role_first (Role.Literal x) behind = Some (literal_first x)
role_first (Role.Comment x) behind = Some 200

unfoldable pub front : Roles → Option ℕ
front [] = None
front (x ∷ xs) = role_first x (front xs)

-- an ASCII character but this one, or the end
abbrev pub is_other : ℕ → Option ℕ → Bool
is_other c None = true
is_other c (Some b) = nat_lt b 128 && not (b == c)

-- no letter, digit or `_`
abbrev pub ends_word : Option ℕ → Bool
ends_word None = true
ends_word (Some b) = nat_lt b 128 && not (is_ascii_alphanumeric b || (b == 95))

-- The mark is no longer one with what stands behind it.
unfoldable pub ends_mark : Mark → Option ℕ → Bool
ends_mark m.Colon b = is_other 58 b
ends_mark m.Assign b = is_other 61 b
ends_mark m.Equal b = is_other 61 b
ends_mark m.Not b = is_other 33 b && is_other 61 b
ends_mark m.NotEqual b = is_other 61 b
ends_mark m.Plus b = is_other 43 b
ends_mark m.Minus b = is_other 62 b && is_other 45 b
ends_mark m.Slash b = is_other 47 b && is_other 42 b
ends_mark m.Less b = is_other 61 b
ends_mark m.Greater b = is_other 61 b
ends_mark _ b = true

abbrev pub ends_literal : KLiteral → Option ℕ → Bool
ends_literal (literal.Integer x) b = ends_word b
ends_literal (literal.Long x) b = true
ends_literal (literal.Character x) b = true
ends_literal (literal.Text x) b = true
ends_literal literal.True b = ends_word b
ends_literal literal.False b = ends_word b
ends_literal literal.Null b = ends_word b

abbrev pub is_line_end : Option ℕ → Bool
is_line_end None = false
is_line_end (Some b) = b == 10

abbrev pub ends_glyph : Glyph → Option ℕ → Bool
ends_glyph (g.Mark x) b = ends_mark x b
ends_glyph (g.Keyword x) b = ends_word b
ends_glyph (g.Word x) b = ends_word b
ends_glyph _ b = true

-- The part ends where this stands behind it.
abbrev pub ends : Role → Option ℕ → Bool
ends (Role.Fixed x) b = ends_glyph x b
ends (Role.Name n) b = if is_quoted n then true else ends_word b
ends (Role.Literal x) b = ends_literal x b
ends (Role.Comment x) b = is_line_end b

-- ---- brackets

abbrev pub opened : Open → Role → Open
opened o (Role.Fixed (g.Mark x)) = open_behind o (q.Mark x)
opened o _ = o

-- A line end is no blank there.
abbrev pub breaks : Open → Role → Bool
breaks o (Role.Fixed g.Line) = not (is_listed o)
breaks o _ = true

-- A bracket that closes has the form of the innermost one that is open.
abbrev pub pairs_by : Open → Bracket → Bool
pairs_by o (b.Closes form) = closes_innermost o form
pairs_by o _ = true

abbrev pub pairs : Open → Role → Bool
pairs o (Role.Fixed (g.Mark x)) = pairs_by o (bracket_mark x)
pairs o _ = true

abbrev pub is_none : Open → Bool
is_none [] = true
is_none (x ∷ xs) = false

-- Each part ends where the next one begins, line ends count, and brackets pair, where these are open before the text.
unfoldable pub is_lexable : Open → Roles → Bool
is_lexable o [] = is_none o
is_lexable o (x ∷ xs) = ends x (front xs) && (breaks o x && (pairs o x && is_lexable (opened o x) xs))

-- No more than 1,600 brackets are open at once.
abbrev pub is_opening : Bracket → Bool
is_opening (b.Opens form) = true
is_opening _ = false

abbrev pub fits_by : Open → Bracket → Bool
fits_by o x = if is_opening x then not (length o == 1600) else true

abbrev pub fits : Open → Role → Bool
fits o (Role.Fixed (g.Mark x)) = fits_by o (bracket_mark x)
fits o _ = true

unfoldable pub is_shallow : Open → Roles → Bool
is_shallow o [] = true
is_shallow o (x ∷ xs) = fits o x && is_shallow (opened o x) xs

-- ---- what a text consists of

abbrev pub IsPart : Role → Type 0
IsPart (Role.Fixed x) = Unit {0}
IsPart (Role.Name n) = IsIdentifier n
IsPart (Role.Literal x) = is_literal x ≡ true
IsPart (Role.Comment x) = IsComment x

-- The names are identifiers, the comments are comments, the literals are those of the profile.
unfoldable pub AreParts : Roles → Type 0
AreParts [] = Unit {0}
AreParts (x ∷ xs) = IsPart x × AreParts xs

-- The tokens of a text that is laid out.
use Rattle.std.specs.Prelude.{ℕ, if◌then◌else◌, List, [], ◌∷◌, Option, Some}
use Rattle.kotlin_tree.specs.declared.tokens.Gap.{Gap}
use Rattle.kotlin_tree.specs.declared.tokens.Gap.TheVariants as gap
use Rattle.kotlin_tree.specs.declared.tokens.Keyword.TheVariants as h
use Rattle.kotlin_tree.specs.declared.tokens.TokenKind.{TokenKind}
use Rattle.kotlin_tree.specs.declared.tokens.TokenKind.TheVariants as q
use Rattle.kotlin_tree.specs.declared.tokens.KToken.{KToken}
use Rattle.kotlin_tree.specs.declared.expressions.KLiteral.{KLiteral}
use Rattle.kotlin_tree.specs.declared.expressions.KLiteral.TheVariants as literal
use Rattle.kotlin_tree.specs.UpToPlaces.{made}
use Rattle.kotlin_keywords.specs.declared.words.WordKind.{WordKind}
use Rattle.kotlin_keywords.specs.declared.words.WordKind.TheVariants as row
use Rattle.kotlin_keywords.specs.Words.{word_kind}
use Rattle.kotlin_layout.specs.declared.glyphs.Glyph.{Glyph}
use Rattle.kotlin_layout.specs.declared.glyphs.Glyph.TheVariants as g
use Rattle.kotlin_layout.specs.Roles.{Role, Roles}
use Rattle.kotlin_layout.specs.Names.{is_quoted}

abbrev pub Tokens : Type 0
Tokens = List KToken

-- a token of a text that was made
abbrev pub token : TokenKind → Gap → KToken
token kind before = record { kind = kind; gap = before; position = made }

abbrev pub word_by : List ℕ → Option WordKind → TokenKind
word_by n (Some (row.Word x)) = q.Word x
word_by n _ = q.Name n

-- a name without backticks may be a word
unfoldable pub name_token : List ℕ → TokenKind
name_token n = if is_quoted n then q.Name n else word_by n (word_kind n)

abbrev pub literal_token : KLiteral → TokenKind
literal_token (literal.Integer x) = q.Integer x
literal_token (literal.Long x) = q.Long x
literal_token (literal.Character x) = q.Character x
literal_token (literal.Text x) = q.Text x
literal_token literal.True = q.Keyword h.True
literal_token literal.False = q.Keyword h.False
literal_token literal.Null = q.Keyword h.Null

-- a line end counts where no `;` does
abbrev pub lined : Gap → Gap
lined gap.Plain = gap.Line
lined gap.Line = gap.Line
lined gap.Semicolon = gap.Semicolon

-- the tokens of a glyph and of what follows, where this stands before it
abbrev pub with_glyph : Glyph → Gap → (Gap → Tokens) → Tokens
with_glyph (g.Mark x) before more = token (q.Mark x) before ∷ more gap.Plain
with_glyph (g.Keyword x) before more = token (q.Keyword x) before ∷ more gap.Plain
with_glyph (g.Word x) before more = token (q.Word x) before ∷ more gap.Plain
with_glyph g.Semicolon before more = more gap.Semicolon
with_glyph g.Line before more = more (lined before)
with_glyph g.Blank before more = more before
with_glyph g.Deeper before more = more before
with_glyph g.Shallower before more = more before

-- the tokens of a text, where this stands before it
unfoldable pub tokens : Gap → Roles → Tokens
tokens before [] = []
tokens before (Role.Fixed x ∷ xs) = with_glyph x before (λ h. tokens h xs)
tokens before (Role.Name n ∷ xs) = token (name_token n) before ∷ tokens gap.Plain xs
tokens before (Role.Literal x ∷ xs) = token (literal_token x) before ∷ tokens gap.Plain xs
tokens before (Role.Comment x ∷ xs) = tokens before xs

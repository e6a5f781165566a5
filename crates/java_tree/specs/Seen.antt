-- Tokens as the grammar sees them: what each is, and where it stands.
use Rattle.std.specs.Prelude.{ℕ, zero, suc, ◌-◌, List, [], ◌∷◌, ◌++◌, length, map, take, drop, slice_range, Option, Some, None}
use Rattle.java_tree.specs.declared.tokens.Position.{Position}
use Rattle.java_tree.specs.declared.tokens.Mark.{Mark}
use Rattle.java_tree.specs.declared.tokens.Mark.TheVariants as m
use Rattle.java_tree.specs.declared.tokens.Keyword.{Keyword}
use Rattle.java_tree.specs.declared.tokens.Keyword.TheVariants as w
use Rattle.java_tree.specs.declared.tokens.TokenKind.{TokenKind}
use Rattle.java_tree.specs.declared.tokens.TokenKind.TheVariants as k
use Rattle.java_tree.specs.declared.tokens.JToken.{JToken}
use Rattle.java_tree.specs.declared.exprs.JLiteral.{JLiteral}
use Rattle.java_tree.specs.declared.exprs.JLiteral.TheVariants as l
use Rattle.java_tree.specs.declared.exprs.Span.{Span}

-- a token of the grammar: `true`, `false` and `null` are literals, and a body counts with the token before it
pub data Token : Type 0 where
  Sign : Mark → Position → Token
  Word : Keyword → Position → Token
  Id : List ℕ → Position → Token
  Literal : JLiteral → Position → Token
  -- a `->` with the block behind it
  ArrowBody : Position → Span → Token
  -- a `)` with the body of a class behind it
  CloseBody : Position → Span → Token

abbrev pub Tokens : Type 0
Tokens = List Token

abbrev pub word_literal : Keyword → JLiteral
word_literal w.True = l.True
word_literal w.False = l.False
word_literal _ = l.Null

-- the literal that a token is, where it is one
abbrev pub literal : TokenKind → JLiteral
literal (k.Keyword word) = word_literal word
literal (k.Integer n) = l.Integer n
literal k.LeastInteger = l.LeastInteger
literal (k.Long n) = l.Long n
literal k.LeastLong = l.LeastLong
literal (k.Character n) = l.Character n
literal (k.Text units) = l.Text units
literal _ = l.Null

abbrev pub word_seen : Keyword → Position → Token
word_seen w.True at = Token.Literal l.True at
word_seen w.False at = Token.Literal l.False at
word_seen w.Null at = Token.Literal l.Null at
word_seen word at = Token.Word word at

abbrev pub kind_seen : TokenKind → Position → Token
kind_seen (k.Mark mark) at = Token.Sign mark at
kind_seen (k.Keyword word) at = word_seen word at
kind_seen (k.Name name) at = Token.Id name at
kind_seen kind at = Token.Literal (literal kind) at

abbrev pub token_seen : JToken → Token
token_seen x = kind_seen x.kind x.position

-- the tokens of a list as the grammar sees them
unfoldable pub seen : List JToken → Tokens
seen = map token_seen

-- those from one place of the list to before another
abbrev pub between : ℕ → ℕ → List JToken → Tokens
between from to ts = seen (slice_range ts from to)

-- ---- bodies. In an expression a `{` directly behind `->` opens the block of a lambda (JLS 15.27.2),
-- and one directly behind `)` the body of an anonymous class (JLS 15.9.5); its `}` is the one that pairs with it.

-- the `}` that closes the body of which n more braces are open, and what follows it
unfoldable pub from_closing : ℕ → Tokens → Tokens
from_closing n [] = []
from_closing n (Token.Sign m.OpenCurly at ∷ rest) = from_closing (suc n) rest
from_closing zero (Token.Sign m.CloseCurly at ∷ rest) = Token.Sign m.CloseCurly at ∷ rest
from_closing (suc n) (Token.Sign m.CloseCurly at ∷ rest) = from_closing n rest
from_closing n (x ∷ rest) = from_closing n rest

-- A list of tokens is the last part of those before the token `end` of the file, so that a token's number is `end` less
-- the tokens from it on.
abbrev pub body_by : ℕ → Position → ℕ → Tokens → Option (Span × Tokens)
body_by end opens inside (Token.Sign m.CloseCurly closes ∷ rest) =
    Some (record { opens = opens; from = end - inside; to = end - suc (length rest); closes = closes }, rest)
body_by end opens inside _ = None

-- the body whose `{` comes first, and what follows it
abbrev pub body : ℕ → Tokens → Option (Span × Tokens)
body end (Token.Sign m.OpenCurly opens ∷ rest) = body_by end opens (length rest) (from_closing 0 rest)
body end _ = None

abbrev pub joins : (Span → Token) → Token → Tokens → Option (Span × Tokens) → Token × Tokens
joins make plain ts None = (plain, ts)
joins make plain ts (Some b) = (make b.0, b.1)

-- a token with the body directly behind it, and what follows
abbrev pub piece_by : ℕ → Mark → Position → Tokens → Token × Tokens
piece_by end m.Arrow at ts = joins (Token.ArrowBody at) (Token.Sign m.Arrow at) ts (body end ts)
piece_by end m.CloseRound at ts = joins (Token.CloseBody at) (Token.Sign m.CloseRound at) ts (body end ts)
piece_by end mark at ts = (Token.Sign mark at, ts)

abbrev pub piece : ℕ → Token → Tokens → Token × Tokens
piece end (Token.Sign mark at) ts = piece_by end mark at ts
piece end token ts = (token, ts)

-- at most n of them
unfoldable pub pieces_within : ℕ → ℕ → Tokens → Tokens
pieces_within zero end ts = []
pieces_within (suc n) end [] = []
pieces_within (suc n) end (token ∷ ts) = (piece end token ts).0 ∷ pieces_within n end (piece end token ts).1

-- the tokens with their bodies as spans, where they end before the token `end` of the file
abbrev pub pieces : ℕ → Tokens → Tokens
pieces end ts = pieces_within (length ts) end ts

-- ---- and back: the tokens with those of the bodies, which are counted in the file

abbrev pub body_tokens : Tokens → Span → Tokens
body_tokens file body = Token.Sign m.OpenCurly body.opens ∷ (take (body.to - body.from) (drop body.from file) ++ Token.Sign m.CloseCurly body.closes ∷ [])

abbrev pub token_tokens : Tokens → Token → Tokens
token_tokens file (Token.ArrowBody at body) = Token.Sign m.Arrow at ∷ body_tokens file body
token_tokens file (Token.CloseBody at body) = Token.Sign m.CloseRound at ∷ body_tokens file body
token_tokens file token = token ∷ []

unfoldable pub expanded : Tokens → Tokens → Tokens
expanded file [] = []
expanded file (token ∷ ts) = token_tokens file token ++ expanded file ts

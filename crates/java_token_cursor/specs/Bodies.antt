-- The braces among tokens, and the bodies between them.
use Rattle.std.specs.Prelude.{◌≡◌, ℕ, zero, suc, ◌+◌, List, length, [], ◌∷◌, Option, Some, None}
use Rattle.std.specs.Borrow.{Bor}
use Rattle.java_tree.specs.declared.tokens.Mark.TheVariants as m
use Rattle.java_tree.specs.declared.tokens.Position.{Position}
use Rattle.java_tree.specs.declared.tokens.JToken.{JToken}
use Rattle.java_tree.specs.Seen.{Token, Tokens, token_seen, seen, from_closing}
use Rattle.java_token_cursor.specs.declared.bodies.Brace.{Brace}
use Rattle.java_token_cursor.specs.declared.bodies.Brace.TheVariants as c
use Rattle.java_token_cursor.specs.declared.bodies.Opener.{Opener}
use Rattle.java_token_cursor.specs.declared.bodies.Opener.TheVariants as o
use Rattle.java_token_cursor.specs.declared.bodies.Turn.{Turn}
use Rattle.java_token_cursor.specs.declared.bodies.Turn.TheVariants as u

abbrev pub FindsBehind : {A : Type 0} → Option (A × Tokens) → Option (A × Bor (List JToken)) → Type 0
FindsBehind read None = read ≡ None
FindsBehind read (Some x) = read ≡ Some (x.0, seen x.1.now)

abbrev pub Parts : List JToken → Option (Bor JToken × Bor (List JToken)) → Type 0
Parts ts None = seen ts ≡ []
Parts ts (Some x) = (seen ts ≡ token_seen x.0.now ∷ seen x.1.now) × (length ts ≡ length x.1.now + 1)

abbrev pub brace : Token → Brace
brace (Token.Sign m.OpenCurly at) = c.Opens at
brace (Token.Sign m.CloseCurly at) = c.Closes at
brace _ = c.Other

abbrev pub opener : Token → Opener
opener (Token.Sign m.Arrow at) = o.Arrow at
opener (Token.Sign m.CloseRound at) = o.CloseRound at
opener _ = o.Other

-- what a token does where n more braces are open
abbrev pub turn : ℕ → Brace → Turn
turn n (c.Opens at) = u.Open (n + 1)
turn zero (c.Closes at) = u.Closed at
turn (suc n) (c.Closes at) = u.Open n
turn n c.Other = u.Open n

-- the place of a `}` that comes first, and what follows it
abbrev pub closed : Tokens → Option (Position × Tokens)
closed (Token.Sign m.CloseCurly at ∷ rest) = Some (at, rest)
closed _ = None

-- the place of the `}` that closes the body of which n more braces are open, and what follows it
unfoldable pub closing : ℕ → Tokens → Option (Position × Tokens)
closing n ts = closed (from_closing n ts)

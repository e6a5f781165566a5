-- What stands further on, as the code looks for it.
use Rattle.std.specs.Prelude.{◌≡◌, ◌<◌, ◌+◌, ℕ, Bool, true, false, List, [], ◌∷◌, length, Option, Some, None}
use Rattle.std.specs.Borrow.{Bor}
use Rattle.java_tree.specs.declared.tokens.Mark.TheVariants as m
use Rattle.java_tree.specs.Seen.{Token, Tokens}
use Rattle.java_token_cursor.specs.declared.piece.Piece.{Piece}
use Rattle.java_token_cursor.specs.Shown.{shown}
use Rattle.java_body_cuts.specs.declared.ahead.Ahead.{Ahead}
use Rattle.java_body_cuts.specs.declared.ahead.Ahead.TheVariants as a
use Rattle.java_body_cuts.specs.declared.ahead.Count.{Count}
use Rattle.java_body_cuts.specs.declared.ahead.Count.TheVariants as n

-- of the body that counts with a token, whether it is a block
abbrev pub span_of : Token → List Bool
span_of (Token.ArrowBody at body) = true ∷ []
span_of (Token.CloseBody at body) = false ∷ []
span_of _ = []

-- What a look ahead says, or it goes on behind a piece.
abbrev pub Tells : (Tokens → Bool) → List Piece → Ahead → Type 0
Tells test ts (a.Says b) = b ≡ test (shown ts)
Tells test ts (a.Go rest) = (test (shown ts) ≡ test (shown rest.now)) × (length rest.now < length ts)

abbrev pub after_name : Tokens → Option Tokens
after_name (Token.Id n at ∷ rest) = Some rest
after_name _ = None

abbrev pub HasRest : Option Tokens → List Piece → Option (Bor (List Piece)) → Type 0
HasRest read ts None = read ≡ None
HasRest read ts (Some rest) = (read ≡ Some (shown rest.now)) × (length rest.now < length ts)

-- how many tokens stand before the first `{`
unfoldable pub curly_count : Tokens → ℕ
curly_count [] = 0
curly_count (Token.Sign m.OpenCurly at ∷ rest) = 0
curly_count (x ∷ rest) = curly_count rest + 1

-- how many there are as far as the first `;`
unfoldable pub line_count : Tokens → ℕ
line_count [] = 0
line_count (Token.Sign m.Semicolon at ∷ rest) = 1
line_count (x ∷ rest) = line_count rest + 1

-- whether a `;` comes first, as a number
abbrev pub semicolon_count : Tokens → ℕ
semicolon_count (Token.Sign m.Semicolon at ∷ rest) = 1
semicolon_count _ = 0

-- A count ends, or it goes on behind a piece.
abbrev pub Counts : (Tokens → ℕ) → List Piece → Count → Type 0
Counts count ts (n.Ends k) = count (shown ts) ≡ k
Counts count ts (n.Go rest) = (count (shown ts) ≡ count (shown rest.now) + 1) × (length ts ≡ length rest.now + 1)

-- What the first of the pieces is, and what a reader of one piece gives.
use Rattle.std.specs.Prelude.{◌≡◌, ◌+◌, length, List, [], ◌∷◌, Option, Some, None}
use Rattle.std.specs.Borrow.{Bor}
use Rattle.java_tree.specs.declared.tokens.Mark.TheVariants as m
use Rattle.java_tree.specs.declared.tokens.Position.{Position}
use Rattle.java_tree.specs.Seen.{Token, literal}
use Rattle.java_expr_grammar.specs.Reading.{Read, Reader}
use Rattle.java_token_cursor.specs.declared.piece.Piece.{Piece}
use Rattle.java_token_cursor.specs.declared.head.Head.{Head}
use Rattle.java_token_cursor.specs.declared.head.Head.TheVariants as h
use Rattle.java_token_cursor.specs.Shown.{shown}

abbrev pub Follows : List Piece → Token → Bor (List Piece) → Type 0
Follows ts token rest = (shown ts ≡ token ∷ shown rest.now) × (length ts ≡ length rest.now + 1)

abbrev pub IsHead : List Piece → Head → Type 0
IsHead ts h.End = shown ts ≡ []
IsHead ts (h.Mark mark at rest) = Follows ts (Token.Sign mark at) rest
IsHead ts (h.Word word at rest) = Follows ts (Token.Word word at) rest
IsHead ts (h.Id n at rest) = Follows ts (Token.Id n.now at) rest
IsHead ts (h.Literal kind at rest) = Follows ts (Token.Literal (literal kind.now) at) rest
IsHead ts (h.Block at body rest) = Follows ts (Token.ArrowBody at body) rest
IsHead ts (h.Body at body rest) = Follows ts (Token.CloseBody at body) rest

abbrev pub Finds : {A : Type 0} → Read A → Option (A × Bor (List Piece)) → Type 0
Finds read None = read ≡ None
Finds read (Some x) = read ≡ Some (x.0, shown x.1.now)

abbrev pub close_curly : Reader Position
close_curly (Token.Sign m.CloseCurly at ∷ rest) = Some (at, rest)
close_curly _ = None

-- a comma that no `}` follows
abbrev pub unclosed : Position → Reader Position
unclosed at (Token.Sign m.CloseCurly rc ∷ rest) = None
unclosed at rest = Some (at, rest)

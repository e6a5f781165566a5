-- A text is cut into blanks, line ends, `;` and longest tokens, up to its end or the first fault.
use Rattle.std.specs.Prelude.{◌≡◌, ℕ, Bool, true, false, if◌then◌else◌, List, [], ◌∷◌, ◌++◌, Option, Some, None}
use Rattle.kotlin_tree.specs.declared.tokens.Gap.{Gap}
use Rattle.kotlin_tree.specs.declared.tokens.Gap.TheVariants as gaps
use Rattle.kotlin_tree.specs.declared.tokens.TokenKind.TheVariants as kinds
use Rattle.kotlin_tree.specs.declared.tokens.KToken.{KToken}
use Rattle.kotlin_characters.specs.Letters.{Letters, text_of}
use Rattle.kotlin_lexer.specs.declared.found.LexFault.{LexFault}
use Rattle.kotlin_lexer.specs.declared.found.Piece.{Piece}
use Rattle.kotlin_lexer.specs.declared.found.Piece.TheVariants.{End, Fault, Blank, LineEnd, Semicolon, Token}
use Rattle.kotlin_lexer.specs.Found.{is_last}
use Rattle.kotlin_lexer.specs.Nesting.{Open, is_listed, open_behind}
use Rattle.kotlin_lexer.specs.Pieces.{piece_of}

-- The text t is these pieces, and then it ends or a fault stands there, before this rest.
abbrev pub Cuts : Letters → List Piece → Piece → Letters → Type 0
Cuts t [] last rest = (piece_of t ≡ record { piece = last; rest = rest }) × (is_last last ≡ true)
Cuts t (p ∷ ps) last rest =
    (more : Letters) × (piece_of t ≡ record { piece = p; rest = more }) × (is_last p ≡ false) × Cuts more ps last rest

-- what stands before the next token, behind a line end that counts
abbrev pub line_end_gap : Gap → Gap
line_end_gap gaps.Plain = gaps.Line
line_end_gap gaps.Line = gaps.Line
line_end_gap gaps.Semicolon = gaps.Semicolon

-- Where the innermost open bracket is `(` or `[`, a line end is a blank (own rule).
abbrev pub gap_at_line_end : Bool → Gap → Gap
gap_at_line_end listed gap = if listed then gap else line_end_gap gap

-- What stands before the next token, behind one more piece: a `;` counts more than a line end, and a token begins anew (own rule).
abbrev pub gap_next : Bool → Gap → Piece → Gap
gap_next listed gap (End p) = gap
gap_next listed gap (Fault f) = gap
gap_next listed gap Blank = gap
gap_next listed gap LineEnd = gap_at_line_end listed gap
gap_next listed gap Semicolon = gaps.Semicolon
gap_next listed gap (Token kind p) = gaps.Plain

-- the brackets that are open behind one more piece
abbrev pub open_next : Open → Piece → Open
open_next opened (End p) = opened
open_next opened (Fault f) = opened
open_next opened Blank = opened
open_next opened LineEnd = opened
open_next opened Semicolon = opened
open_next opened (Token kind p) = open_behind opened kind

-- the token that a piece is, where this stands before it; the end of the file is one (own rule)
abbrev pub token_in : Gap → Piece → List KToken
token_in gap (End p) = record { kind = kinds.End; gap = gap; position = p } ∷ []
token_in gap (Fault f) = []
token_in gap Blank = []
token_in gap LineEnd = []
token_in gap Semicolon = []
token_in gap (Token kind p) = record { kind = kind; gap = gap; position = p } ∷ []

-- the tokens among pieces, the last of which stands apart, where these brackets are open and this stands before them
abbrev pub tokens_of : Open → Gap → List Piece → Piece → List KToken
tokens_of opened gap [] last = token_in gap last
tokens_of opened gap (p ∷ ps) last = token_in gap p ++ tokens_of (open_next opened p) (gap_next (is_listed opened) gap p) ps last

-- the fault that the last piece tells of
abbrev pub fault_of : Piece → Option LexFault
fault_of (Fault f) = Some f
fault_of (End p) = None
fault_of Blank = None
fault_of LineEnd = None
fault_of Semicolon = None
fault_of (Token kind p) = None

-- The bytes up to their end or their first fault.
pub record Reading (bytes : List ℕ) (tokens : List KToken) (fault : Option LexFault) : Type 0 where
  pub pieces : List Piece
  pub last : Piece
  pub rest : Letters
  pub cuts : Cuts (text_of bytes) pieces last rest
  pub tokens_are : tokens ≡ tokens_of [] gaps.Plain pieces last
  pub fault_is : fault ≡ fault_of last

-- The bytes are these tokens, each behind what stands before it, and blanks.
abbrev pub Lexes : List ℕ → List KToken → Type 0
Lexes bytes tokens = Reading bytes tokens None

-- The first place of the bytes where no case applies, and why.
abbrev pub Faults : List ℕ → LexFault → Type 0
Faults bytes fault = (tokens : List KToken) × Reading bytes tokens (Some fault)

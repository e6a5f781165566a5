-- A text is cut into white space, comments and longest tokens, up to its end or the first fault.
use Rattle.std.specs.Prelude.{◌≡◌, ℕ, Bool, true, false, List, [], ◌∷◌, ◌++◌, codes, if◌then◌else◌, Option, Some, None}
use Rattle.std.specs.Str.{bytes_eq}
use Rattle.java_tree.specs.declared.tokens.Position.{Position}
use Rattle.java_tree.specs.declared.tokens.Mark.{Mark}
use Rattle.java_tree.specs.declared.tokens.Mark.TheVariants as marks
use Rattle.java_tree.specs.declared.tokens.TokenKind.{TokenKind}
use Rattle.java_tree.specs.declared.tokens.TokenKind.TheVariants as kinds
use Rattle.java_tree.specs.declared.tokens.JToken.{JToken}
use Rattle.java_tree.specs.declared.tokens.Comment as remarks
use Rattle.java_characters.specs.declared.letters.Ending.{Ending}
use Rattle.java_characters.specs.declared.letters.Ending.TheVariants as endings
use Rattle.java_lexer.specs.declared.found.Code.TheVariants.{Utf8, Escape, Outside}
use Rattle.java_lexer.specs.declared.found.LexFault.{LexFault}
use Rattle.java_lexer.specs.declared.found.Piece.{Piece}
use Rattle.java_lexer.specs.declared.found.Piece.TheVariants.{End, Fault, White, Comment, Token}
use Rattle.java_lexer.specs.declared.cutting.Before.{Before}
use Rattle.java_lexer.specs.declared.cutting.Before.TheVariants.{Other, Minus, At}
use Rattle.java_characters.specs.Letters.{Letters, letter, stop, text_of}
use Rattle.java_lexer.specs.Found.{Cut, fault, is_last}
use Rattle.java_lexer.specs.Pieces.{piece_of}

-- the last token is `-` (JLS 3.10.1)
abbrev pub is_minus : Before → Bool
is_minus Other = false
is_minus Minus = true
is_minus (At p) = false

-- what a mark is to the token behind it (own rule)
abbrev pub before_mark : Position → Mark → Before
before_mark p marks.Minus = Minus
before_mark p marks.At = At p
before_mark p mark = Other

-- what a token is to the token behind it (own rule)
abbrev pub before_kind : Position → TokenKind → Before
before_kind p (kinds.Mark m) = before_mark p m
before_kind p kind = Other

-- the last token, behind one more piece (own rule)
abbrev pub before_next : Before → Piece → Before
before_next before End = before
before_next before (Fault f) = before
before_next before White = before
before_next before (Comment c) = before
before_next before (Token t) = before_kind t.position t.kind

-- the identifier `Override` (own rule)
abbrev pub is_override : TokenKind → Bool
is_override (kinds.Name name) = bytes_eq name (codes "Override")
is_override kind = false

-- An `@` at p that the token `Override` doesn't follow is outside the profile (own rule).
abbrev pub behind_at : Position → Piece → Letters → Cut
behind_at p End rest = fault Outside p rest
behind_at p (Fault f) rest = fault Outside p rest
behind_at p White rest = record { piece = White; rest = rest }
behind_at p (Comment c) rest = record { piece = Comment c; rest = rest }
behind_at p (Token t) rest = if is_override t.kind then record { piece = Token t; rest = rest } else fault Outside p rest

-- a piece behind a token (own rule)
abbrev pub annotated : Before → Cut → Cut
annotated Other cut = cut
annotated Minus cut = cut
annotated (At p) cut = behind_at p cut.piece cut.rest

-- a byte that is no UTF-8 or a bad escape ended the text (own rule)
abbrev pub is_cut : Ending → Bool
is_cut endings.File = false
is_cut endings.Byte = true
is_cut endings.Escape = true

-- Where the text was cut, what reaches its end is no fault of its own (own rule).
abbrev pub unless_cut : Piece → Letters → Cut
unless_cut (Fault f) (stop e q) = record { piece = if is_cut e then End else Fault f; rest = stop e q }
unless_cut (Fault f) (letter c q rest) = record { piece = Fault f; rest = letter c q rest }
unless_cut End rest = record { piece = End; rest = rest }
unless_cut White rest = record { piece = White; rest = rest }
unless_cut (Comment c) rest = record { piece = Comment c; rest = rest }
unless_cut (Token t) rest = record { piece = Token t; rest = rest }

-- a piece, where the text may have been cut (own rule)
abbrev pub judged : Cut → Cut
judged cut = unless_cut cut.piece cut.rest

-- The piece that a text begins with, behind this token (JLS 3.2).
unfoldable pub next_piece : Before → Letters → Cut
next_piece before t = judged (annotated before (piece_of (is_minus before) t))

-- The text t is these pieces, and then it ends or a fault stands there, before this rest (JLS 3.2, 3.5).
abbrev pub Cuts : Before → Letters → List Piece → Piece → Letters → Type 0
Cuts before t [] last rest = (next_piece before t ≡ record { piece = last; rest = rest }) × (is_last last ≡ true)
Cuts before t (p ∷ ps) last rest =
    (more : Letters) × (next_piece before t ≡ record { piece = p; rest = more }) × (is_last p ≡ false) × Cuts (before_next before p) more ps last rest

-- the token that a piece is (own rule)
abbrev pub token_in : Piece → List JToken
token_in End = []
token_in (Fault f) = []
token_in White = []
token_in (Comment c) = []
token_in (Token t) = t ∷ []

-- the comment that a piece is (own rule)
abbrev pub comment_in : Piece → List remarks.Comment
comment_in End = []
comment_in (Fault f) = []
comment_in White = []
comment_in (Comment c) = c ∷ []
comment_in (Token t) = []

-- the tokens among pieces (own rule)
abbrev pub tokens_of : List Piece → List JToken
tokens_of [] = []
tokens_of (p ∷ ps) = token_in p ++ tokens_of ps

-- the comments among pieces (own rule)
abbrev pub comments_of : List Piece → List remarks.Comment
comments_of [] = []
comments_of (p ∷ ps) = comment_in p ++ comments_of ps

-- the fault where a text ends: none, or that of what ended it (own rule)
abbrev pub end_fault : Letters → Option LexFault
end_fault (letter c q rest) = None
end_fault (stop endings.File q) = None
end_fault (stop endings.Byte q) = Some (record { code = Utf8; position = q })
end_fault (stop endings.Escape q) = Some (record { code = Escape; position = q })

-- the fault that the last piece and its rest tell of (own rule)
abbrev pub fault_of : Piece → Letters → Option LexFault
fault_of (Fault f) rest = Some f
fault_of End rest = end_fault rest
fault_of White rest = None
fault_of (Comment c) rest = None
fault_of (Token t) rest = None

-- The bytes up to their end or their first fault (own rule).
pub record Reading (bytes : List ℕ) (tokens : List JToken) (comments : List remarks.Comment) (fault : Option LexFault) : Type 0 where
  pub pieces : List Piece
  pub last : Piece
  pub rest : Letters
  pub cuts : Cuts Other (text_of bytes) pieces last rest
  pub tokens_are : tokens ≡ tokens_of pieces
  pub comments_are : comments ≡ comments_of pieces
  pub fault_is : fault ≡ fault_of last rest

-- The bytes are these tokens and comments, and white space (JLS 3.2).
abbrev pub Lexes : List ℕ → List JToken → List remarks.Comment → Type 0
Lexes bytes tokens comments = Reading bytes tokens comments None

-- The first place of the bytes where no case applies, and why (own rule).
abbrev pub Faults : List ℕ → LexFault → Type 0
Faults bytes fault = (tokens : List JToken) × (comments : List remarks.Comment) × Reading bytes tokens comments (Some fault)

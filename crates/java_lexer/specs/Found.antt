-- What a text begins with, and what is left behind it.
use Rattle.std.specs.Prelude.{ℕ, Bool, true, false, List}
use Rattle.java_tree.specs.declared.tokens.Position.{Position}
use Rattle.java_tree.specs.declared.tokens.TokenKind.{TokenKind}
use Rattle.java_lexer.specs.declared.found.Code.{Code}
use Rattle.java_lexer.specs.declared.found.Piece.{Piece}
use Rattle.java_lexer.specs.declared.found.Piece.TheVariants.{End, Fault, White, Comment, Token}
use Rattle.java_lexer.specs.declared.found.Found.{Found}
use Rattle.java_characters.specs.Letters.{Letters, letters}
use Rattle.java_characters.specs.Scans.{place_of}

-- A piece, and the text behind it. Behind a fault it is what no token of this form takes (own rule).
pub record Cut : Type 0 where
  pub piece : Piece
  pub rest : Letters

-- a fault at p, before this rest (own rule)
abbrev pub fault : Code → Position → Letters → Cut
fault code p rest = record { piece = Fault (record { code = code; position = p }); rest = rest }

-- a token at p, before this rest (own rule)
abbrev pub token : TokenKind → Position → Letters → Cut
token kind p rest = record { piece = Token (record { kind = kind; position = p }); rest = rest }

-- a comment up to where the rest begins (own rule)
abbrev pub comment : Position → Letters → Cut
comment p rest = record { piece = Comment (record { position = p; end = (place_of rest).offset }); rest = rest }

-- what was found in the bytes, with the text behind it (own rule)
abbrev pub cut_of : List ℕ → Found → Cut
cut_of bytes f = record { piece = f.piece; rest = letters bytes f.next }

-- Nothing is cut behind the text's end or a fault (own rule).
abbrev pub is_last : Piece → Bool
is_last End = true
is_last (Fault f) = true
is_last White = false
is_last (Comment c) = false
is_last (Token t) = false

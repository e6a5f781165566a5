-- What a text begins with, and what is left behind it.
use Rattle.std.specs.Prelude.{ℕ, Bool, true, false, List}
use Rattle.kotlin_tree.specs.declared.places.Position.{Position}
use Rattle.kotlin_tree.specs.declared.tokens.TokenKind.{TokenKind}
use Rattle.kotlin_characters.specs.declared.letters.Ending.TheVariants as endings
use Rattle.kotlin_characters.specs.Letters.{Letters, letter, stop, letters}
use Rattle.kotlin_lexer.specs.declared.found.Code.{Code}
use Rattle.kotlin_lexer.specs.declared.found.Code.TheVariants.{Utf8}
use Rattle.kotlin_lexer.specs.declared.found.Piece.{Piece}
use Rattle.kotlin_lexer.specs.declared.found.Piece.TheVariants.{End, Fault, Blank, LineEnd, Semicolon, Token}
use Rattle.kotlin_lexer.specs.declared.found.Found.{Found}

-- A piece, and the text behind it. Behind a fault it is what no token of this form takes (own rule).
pub record Cut : Type 0 where
  pub piece : Piece
  pub rest : Letters

-- a fault at p, before this rest (own rule)
abbrev pub fault : Code → Position → Letters → Cut
fault code p rest = record { piece = Fault (record { code = code; position = p }); rest = rest }

-- a token at p, before this rest (own rule)
abbrev pub token : TokenKind → Position → Letters → Cut
token kind p rest = record { piece = Token kind p; rest = rest }

-- a blank, before this rest (own rule)
abbrev pub blank : Letters → Cut
blank rest = record { piece = Blank; rest = rest }

-- A form that begins at p and fails at this rest. Where the text is cut there, no more is known of it, and the fault is the byte that cuts (own rule).
abbrev pub unformed : Code → Position → Letters → Cut
unformed code p (letter c q rest) = fault code p (letter c q rest)
unformed code p (stop endings.File q) = fault code p (stop endings.File q)
unformed code p (stop endings.Byte q) = fault Utf8 q (stop endings.Byte q)

-- what was found in the bytes, with the text behind it (own rule)
abbrev pub cut_of : List ℕ → Found → Cut
cut_of bytes f = record { piece = f.piece; rest = letters bytes f.next }

-- Nothing is cut behind the file's end or a fault (own rule).
abbrev pub is_last : Piece → Bool
is_last (End p) = true
is_last (Fault f) = true
is_last Blank = false
is_last LineEnd = false
is_last Semicolon = false
is_last (Token kind p) = false

-- What a text begins with: white space, a comment or a token (JLS 3.5).
use Rattle.std.specs.Prelude.{ℕ, Bool, not, ◌&&◌, ◌||◌, ◌==◌, if◌then◌else◌}
use Rattle.java_tree.specs.declared.tokens.Position.{Position}
use Rattle.java_tree.specs.declared.tokens.TokenKind.TheVariants as kinds
use Rattle.java_lexer.specs.declared.found.Code.TheVariants as codes
use Rattle.java_lexer.specs.declared.found.Piece.TheVariants.{End, White}
use Rattle.java_lexer.specs.declared.marks.MarkKind.{MarkKind}
use Rattle.java_lexer.specs.declared.marks.MarkKind.TheVariants.{Nothing, Outside, Mark}
use Rattle.java_lexer.specs.declared.pieces.Class.{Class}
use Rattle.java_lexer.specs.declared.pieces.Class.TheVariants as classes
use Rattle.java_characters.specs.Letters.{Letters, letter, stop}
use Rattle.java_characters.specs.Scans.{head, tail, drop_while, drop_letters}
use Rattle.java_lexer.specs.Found.{Cut, fault, token, comment}
use Rattle.java_lexer.specs.Numbers.{is_decimal, number_piece}
use Rattle.java_lexer.specs.Literals.{is_line_end, string_piece, character_piece}
use Rattle.java_lexer.specs.Names.{is_start, word_piece}
use Rattle.java_lexer.specs.Marks.{mark_of}

-- white space (JLS 3.6)
abbrev pub is_white : ℕ → Bool
is_white c = (c == 32) || ((c == 9) || ((c == 12) || is_line_end c))

-- white space, and what a line holds (JLS 3.5)
abbrev pub is_in : Class → ℕ → Bool
is_in classes.White c = is_white c
is_in classes.Line c = not (is_line_end c)

-- A block comment behind its opening mark ends with the first closing mark (JLS 3.7).
abbrev pub block_piece : Position → Letters → Cut
block_piece p (letter c q rest) = if (c == 42) && (head rest == 47) then comment p (tail rest) else block_piece p rest
block_piece p (stop e q) = fault codes.Form p (stop e q)

-- the piece of a mark (JLS 3.11, 3.12)
abbrev pub marked : Position → MarkKind → Letters → Letters → Cut
marked p Nothing rest t = fault codes.Character p t
marked p (Outside n) rest t = fault codes.Outside p (drop_letters n rest)
marked p (Mark m n) rest t = token (kinds.Mark m) p (drop_letters n rest)

-- the mark that the text t begins with, whose first letter is c and whose rest this is (JLS 3.5)
unfoldable pub mark_piece : Position → ℕ → Letters → Letters → Cut
mark_piece p c rest t = marked p (mark_of c (head rest) (head (tail rest))) rest t

-- A line comment ends before its line's end or where the text ends (JLS 3.7).
unfoldable pub slash_piece : Position → Letters → Letters → Cut
slash_piece p rest t =
    if head rest == 47 then comment p (drop_while (is_in classes.Line) (tail rest))
    else if head rest == 42 then block_piece p (tail rest)
    else mark_piece p 47 rest t

-- a digit, or a point and a digit (JLS 3.10.1, 3.10.2)
abbrev pub begins_number : ℕ → Letters → Bool
begins_number c rest = is_decimal c || ((c == 46) && is_decimal (head rest))

-- a number, a word or a mark (JLS 3.5)
unfoldable pub token_piece : Bool → Position → ℕ → Letters → Letters → Cut
token_piece minus p c rest t =
    if begins_number c rest then number_piece minus p c rest
    else if is_start c then word_piece p c rest
    else mark_piece p c rest t

-- The piece that a text begins with, behind the mark `-` or anything else (JLS 3.5).
unfoldable pub piece_of : Bool → Letters → Cut
piece_of minus (stop e q) = record { piece = End; rest = stop e q }
piece_of minus (letter c p rest) =
    if is_white c then record { piece = White; rest = drop_while (is_in classes.White) rest }
    else if c == 47 then slash_piece p rest (letter c p rest)
    else if c == 34 then string_piece p rest
    else if c == 39 then character_piece p rest
    else token_piece minus p c rest (letter c p rest)

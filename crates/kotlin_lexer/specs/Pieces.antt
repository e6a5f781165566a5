-- What a text begins with: a blank, a line end, a `;` or a token (Kotlin, "Lexical grammar").
use Rattle.std.specs.Prelude.{ℕ, zero, suc, ◌+◌, ◌-◌, Bool, not, ◌&&◌, ◌||◌, ◌==◌, if◌then◌else◌}
use Rattle.kotlin_tree.specs.declared.places.Position.{Position}
use Rattle.kotlin_tree.specs.declared.tokens.TokenKind.TheVariants as kinds
use Rattle.kotlin_characters.specs.declared.letters.Ending.{Ending}
use Rattle.kotlin_characters.specs.declared.letters.Ending.TheVariants as endings
use Rattle.kotlin_characters.specs.Letters.{Letters, letter, stop}
use Rattle.kotlin_characters.specs.Scans.{head, tail, drop_while, drop_letters}
use Rattle.kotlin_lexer.specs.declared.found.Code.TheVariants as codes
use Rattle.kotlin_lexer.specs.declared.found.Piece.{Piece}
use Rattle.kotlin_lexer.specs.declared.found.Piece.TheVariants.{End, Fault, LineEnd, Semicolon}
use Rattle.kotlin_lexer.specs.declared.marks.MarkKind.{MarkKind}
use Rattle.kotlin_lexer.specs.declared.marks.MarkKind.TheVariants.{Nothing, Mark}
use Rattle.kotlin_lexer.specs.declared.pieces.Class.{Class}
use Rattle.kotlin_lexer.specs.declared.pieces.Class.TheVariants as classes
use Rattle.kotlin_lexer.specs.Found.{Cut, fault, token, blank, unformed}
use Rattle.kotlin_lexer.specs.Numbers.{is_digit, number_piece}
use Rattle.kotlin_lexer.specs.Literals.{string_piece, character_piece}
use Rattle.kotlin_lexer.specs.Names.{is_start, word_piece, quoted_piece}
use Rattle.kotlin_lexer.specs.Marks.{mark_of}

-- white space within a line (Kotlin, "Whitespace and comments")
abbrev pub is_blank : ℕ → Bool
is_blank c = (c == 32) || ((c == 9) || (c == 12))

-- LF or CR, of which each ends a line (Kotlin, "Whitespace and comments")
abbrev pub is_line_end : ℕ → Bool
is_line_end c = (c == 10) || (c == 13)

-- white space within a line, and what a line holds
abbrev pub is_in : Class → ℕ → Bool
is_in classes.Blank c = is_blank c
is_in classes.Line c = not (is_line_end c)

-- A block comment at p, with n more open within it and so many letters of a mark left. Block comments nest, so it ends with the closing mark
-- of the first one (Kotlin, "Whitespace and comments").
abbrev pub block_piece : Position → ℕ → ℕ → Letters → Cut
block_piece p zero n (stop e q) = unformed codes.Form p (stop e q)
block_piece p (suc k) n (stop e q) = unformed codes.Form p (stop e q)
block_piece p (suc k) n (letter c q rest) = block_piece p k n rest
block_piece p zero n (letter c q rest) =
    if (c == 42) && (head rest == 47) then (if n == 0 then blank (tail rest) else block_piece p 1 (n - 1) rest)
    else if (c == 47) && (head rest == 42) then block_piece p 1 (n + 1) rest
    else block_piece p 0 n rest

-- the piece of a mark
abbrev pub marked : Position → MarkKind → Letters → Letters → Cut
marked p Nothing rest t = fault codes.Character p t
marked p (Mark m n) rest t = token (kinds.Mark m) p (drop_letters n rest)

-- the mark that the text t begins with, whose first letter is c and whose rest this is
unfoldable pub mark_piece : Position → ℕ → Letters → Letters → Cut
mark_piece p c rest t = marked p (mark_of c (head rest) (head (tail rest))) rest t

-- A line comment ends before its line's end or where the text ends (Kotlin, "Whitespace and comments").
unfoldable pub slash_piece : Position → Letters → Letters → Cut
slash_piece p rest t =
    if head rest == 47 then blank (drop_while (is_in classes.Line) (tail rest))
    else if head rest == 42 then block_piece p 0 0 (tail rest)
    else mark_piece p 47 rest t

-- a number, a word or a mark
unfoldable pub token_piece : Position → ℕ → Letters → Letters → Cut
token_piece p c rest t =
    if is_digit c then number_piece p c rest
    else if is_start c then word_piece p c rest
    else mark_piece p c rest t

-- a literal with a mark at each end, a name in backticks, or another token
unfoldable pub quoted_token : Position → ℕ → Letters → Letters → Cut
quoted_token p c rest t =
    if c == 34 then string_piece p rest
    else if c == 39 then character_piece p rest
    else if c == 96 then quoted_piece p rest
    else token_piece p c rest t

-- Where a text ends, the file ends, or a byte stands that is no UTF-8.
abbrev pub end_piece : Ending → Position → Piece
end_piece endings.File q = End q
end_piece endings.Byte q = Fault (record { code = codes.Utf8; position = q })

-- The piece that a text begins with.
unfoldable pub piece_of : Letters → Cut
piece_of (stop e q) = record { piece = end_piece e q; rest = stop e q }
piece_of (letter c p rest) =
    if is_blank c then blank (drop_while (is_in classes.Blank) rest)
    else if is_line_end c then record { piece = LineEnd; rest = rest }
    else if c == 59 then record { piece = Semicolon; rest = rest }
    else if c == 47 then slash_piece p rest (letter c p rest)
    else quoted_token p c rest (letter c p rest)

-- The brackets that are open, and where a line end is a blank.
use Rattle.std.specs.Prelude.{Bool, true, false, not, List, [], ◌∷◌, if◌then◌else◌}
use Rattle.kotlin_tree.specs.declared.tokens.Mark.{Mark}
use Rattle.kotlin_tree.specs.declared.tokens.Mark.TheVariants as m
use Rattle.kotlin_tree.specs.declared.tokens.TokenKind.{TokenKind}
use Rattle.kotlin_tree.specs.declared.tokens.TokenKind.TheVariants as kinds
use Rattle.kotlin_lexer.specs.declared.nesting.Form.{Form}
use Rattle.kotlin_lexer.specs.declared.nesting.Form.TheVariants as f
use Rattle.kotlin_lexer.specs.declared.nesting.Bracket.{Bracket}
use Rattle.kotlin_lexer.specs.declared.nesting.Bracket.TheVariants as b

-- what a mark is among brackets
abbrev pub bracket_mark : Mark → Bracket
bracket_mark m.OpenRound = b.Opens f.Round
bracket_mark m.OpenSquare = b.Opens f.Square
bracket_mark m.OpenCurly = b.Opens f.Curly
bracket_mark m.CloseRound = b.Closes f.Round
bracket_mark m.CloseSquare = b.Closes f.Square
bracket_mark m.CloseCurly = b.Closes f.Curly
bracket_mark _ = b.Other

-- what a token is among brackets
abbrev pub bracket : TokenKind → Bracket
bracket (kinds.Mark mark) = bracket_mark mark
bracket _ = b.Other

abbrev pub same : Form → Form → Bool
same f.Round f.Round = true
same f.Square f.Square = true
same f.Curly f.Curly = true
same _ _ = false

abbrev pub is_curly : Form → Bool
is_curly f.Curly = true
is_curly _ = false

-- the brackets that are open, the innermost first
abbrev pub Open : Type 0
Open = List Form

-- the innermost one has this form
abbrev pub closes_innermost : Open → Form → Bool
closes_innermost [] form = false
closes_innermost (x ∷ xs) form = same x form

abbrev pub without_innermost : Open → Open
without_innermost [] = []
without_innermost (x ∷ xs) = xs

-- those that are open behind a bracket: one that closes pairs with the innermost one where that has its form, and else with nothing
abbrev pub behind : Open → Bracket → Open
behind opened (b.Opens form) = form ∷ opened
behind opened (b.Closes form) = if closes_innermost opened form then without_innermost opened else opened
behind opened b.Other = opened

-- those that are open behind a token
abbrev pub open_behind : Open → TokenKind → Open
open_behind opened kind = behind opened (bracket kind)

-- The innermost open bracket is `(` or `[`: there a line end is a blank (Kotlin, "Lexical grammar": inside parentheses and brackets).
abbrev pub is_listed : Open → Bool
is_listed [] = false
is_listed (x ∷ xs) = not (is_curly x)

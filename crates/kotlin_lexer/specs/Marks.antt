-- Marks (Kotlin, "Separators and operations", those of the profile), by their first three characters.
use Rattle.std.specs.Prelude.{ℕ, ◌==◌, ◌&&◌, if◌then◌else◌}
use Rattle.kotlin_tree.specs.declared.tokens.Mark.{Mark as mark}
use Rattle.kotlin_tree.specs.declared.tokens.Mark.TheVariants as marks
use Rattle.kotlin_lexer.specs.declared.marks.MarkKind.{MarkKind}
use Rattle.kotlin_lexer.specs.declared.marks.MarkKind.TheVariants.{Nothing, Mark}

-- a mark with `c` behind its first character, or else one of that alone
abbrev pub either : ℕ → ℕ → mark → mark → MarkKind
either d c long short = if d == c then Mark long 1 else Mark short 0

-- a mark that stands doubled alone
abbrev pub doubled : ℕ → ℕ → mark → MarkKind
doubled d c m = if d == c then Mark m 1 else Nothing

-- `=`, `==` or `===`
abbrev pub equals : ℕ → ℕ → MarkKind
equals d e = if (d == 61) && (e == 61) then Mark marks.Identical 2 else either d 61 marks.Equal marks.Assign

-- `!`, `!!`, `!=` or `!==`
abbrev pub not_marks : ℕ → ℕ → MarkKind
not_marks d e =
    if d == 33 then Mark marks.NotNull 1
    else if (d == 61) && (e == 61) then Mark marks.NotIdentical 2
    else either d 61 marks.NotEqual marks.Not

-- `-`, `--` or `->`
abbrev pub minus : ℕ → MarkKind
minus d = if d == 62 then Mark marks.Arrow 1 else either d 45 marks.MinusMinus marks.Minus

-- a mark of one character that begins no other
abbrev pub single : ℕ → MarkKind
single c =
    if c == 40 then Mark marks.OpenRound 0
    else if c == 41 then Mark marks.CloseRound 0
    else if c == 91 then Mark marks.OpenSquare 0
    else if c == 93 then Mark marks.CloseSquare 0
    else if c == 123 then Mark marks.OpenCurly 0
    else if c == 125 then Mark marks.CloseCurly 0
    else if c == 44 then Mark marks.Comma 0
    else if c == 46 then Mark marks.Dot 0
    else if c == 64 then Mark marks.At 0
    else if c == 63 then Mark marks.Question 0
    else if c == 42 then Mark marks.Star 0
    else if c == 47 then Mark marks.Slash 0
    else if c == 37 then Mark marks.Percent 0
    else Nothing

-- The mark that begins with c, where d and e follow, and how many more characters it takes.
unfoldable pub mark_of : ℕ → ℕ → ℕ → MarkKind
mark_of c d e =
    if c == 58 then either d 58 marks.DoubleColon marks.Colon
    else if c == 61 then equals d e
    else if c == 33 then not_marks d e
    else if c == 43 then either d 43 marks.PlusPlus marks.Plus
    else if c == 45 then minus d
    else if c == 38 then doubled d 38 marks.AndAnd
    else if c == 124 then doubled d 124 marks.OrOr
    else if c == 60 then either d 61 marks.LessEqual marks.Less
    else if c == 62 then either d 61 marks.GreaterEqual marks.Greater
    else single c

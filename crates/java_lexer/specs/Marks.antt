-- Separators and operators (JLS 3.11, 3.12), by their first three characters.
use Rattle.std.specs.Prelude.{ℕ, ◌==◌, ◌&&◌, ◌||◌, if◌then◌else◌}
use Rattle.java_tree.specs.declared.tokens.Mark.{Mark as mark}
use Rattle.java_tree.specs.declared.tokens.Mark.TheVariants as marks
use Rattle.java_lexer.specs.declared.marks.MarkKind.{MarkKind}
use Rattle.java_lexer.specs.declared.marks.MarkKind.TheVariants.{Nothing, Outside, Mark}

-- a mark with `c` behind its first character, or else one of that alone (JLS 3.11, 3.12)
abbrev pub either : ℕ → ℕ → mark → mark → MarkKind
either d c long short = if d == c then Mark long 1 else Mark short 0

-- a mark that stands alone, doubled, or with `=` behind it (JLS 3.11, 3.12)
abbrev pub doubled : ℕ → ℕ → mark → mark → mark → MarkKind
doubled d c double assign single = if d == c then Mark double 1 else either d 61 assign single

-- `-`, `--`, `-=` or `->` (JLS 3.12)
abbrev pub minus : ℕ → MarkKind
minus d = if d == 62 then Mark marks.Arrow 1 else doubled d 45 marks.MinusMinus marks.MinusAssign marks.Minus

-- `<`, `<=`, `<<` or `<<=` (JLS 3.12)
abbrev pub less : ℕ → ℕ → MarkKind
less d e =
    if (d == 60) && (e == 61) then Mark marks.ShiftLeftAssign 2
    else if d == 60 then Mark marks.ShiftLeft 1
    else either d 61 marks.LessEqual marks.Less

-- `>` is a mark by itself, and keeps whether it may be joined with what follows (own rule).
abbrev pub greater : ℕ → MarkKind
greater d = if (d == 62) || (d == 61) then Mark marks.GreaterJoined 0 else Mark marks.Greater 0

-- `::` is outside the profile (own rule).
abbrev pub colon : ℕ → MarkKind
colon d = if d == 58 then Outside 1 else Mark marks.Colon 0

-- `...` is outside the profile (own rule).
abbrev pub dot : ℕ → ℕ → MarkKind
dot d e = if (d == 46) && (e == 46) then Outside 2 else Mark marks.Dot 0

-- a mark of one character that begins no other (JLS 3.11, 3.12)
abbrev pub single : ℕ → MarkKind
single c =
    if c == 40 then Mark marks.OpenRound 0
    else if c == 41 then Mark marks.CloseRound 0
    else if c == 123 then Mark marks.OpenCurly 0
    else if c == 125 then Mark marks.CloseCurly 0
    else if c == 91 then Mark marks.OpenSquare 0
    else if c == 93 then Mark marks.CloseSquare 0
    else if c == 59 then Mark marks.Semicolon 0
    else if c == 44 then Mark marks.Comma 0
    else if c == 63 then Mark marks.Question 0
    else if c == 126 then Mark marks.Tilde 0
    else if c == 64 then Mark marks.At 0
    else Nothing

-- The mark that begins with c, where d and e follow, and how many more characters it takes (JLS 3.11, 3.12).
unfoldable pub mark_of : ℕ → ℕ → ℕ → MarkKind
mark_of c d e =
    if c == 46 then dot d e
    else if c == 61 then either d 61 marks.Equal marks.Assign
    else if c == 33 then either d 61 marks.NotEqual marks.Not
    else if c == 43 then doubled d 43 marks.PlusPlus marks.PlusAssign marks.Plus
    else if c == 45 then minus d
    else if c == 42 then either d 61 marks.StarAssign marks.Star
    else if c == 47 then either d 61 marks.SlashAssign marks.Slash
    else if c == 37 then either d 61 marks.PercentAssign marks.Percent
    else if c == 38 then doubled d 38 marks.AndAnd marks.AndAssign marks.And
    else if c == 124 then doubled d 124 marks.OrOr marks.OrAssign marks.Or
    else if c == 94 then either d 61 marks.HatAssign marks.Hat
    else if c == 60 then less d e
    else if c == 58 then colon d
    else if c == 62 then greater d
    else single c

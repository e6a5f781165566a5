-- The kinds of tokens, with what stands behind each taken in.
use Rattle.std.specs.Prelude.{◌≡◌, ℕ, zero, suc, Bool, true, false, ◌&&◌, ◌||◌, if◌then◌else◌, List, [], ◌∷◌, drop, slice_get, Option, Some, None}
use Rattle.kotlin_tree.specs.declared.tokens.Gap.{Gap}
use Rattle.kotlin_tree.specs.declared.tokens.Gap.TheVariants as gap
use Rattle.kotlin_tree.specs.declared.tokens.Mark.{Mark}
use Rattle.kotlin_tree.specs.declared.tokens.Mark.TheVariants as m
use Rattle.kotlin_tree.specs.declared.tokens.Keyword.{Keyword}
use Rattle.kotlin_tree.specs.declared.tokens.Keyword.TheVariants as h
use Rattle.kotlin_tree.specs.declared.tokens.Word.{Word}
use Rattle.kotlin_tree.specs.declared.tokens.Word.TheVariants as o
use Rattle.kotlin_tree.specs.declared.tokens.TokenKind.{TokenKind}
use Rattle.kotlin_tree.specs.declared.tokens.TokenKind.TheVariants as q
use Rattle.kotlin_tree.specs.declared.tokens.KToken.{KToken}
use Rattle.kotlin_grammar.specs.declared.letters.Kind.{Kind}
use Rattle.kotlin_grammar.specs.declared.letters.Kind.TheVariants as k
use Rattle.kotlin_grammar.specs.declared.letters.Term.TheVariants as t
use Rattle.kotlin_grammar.specs.declared.ahead.Letter.{Letter}
use Rattle.kotlin_grammar.specs.declared.ahead.Spot.{Spot}
use Rattle.kotlin_grammar.specs.declared.ahead.Spot.TheVariants as at
use Rattle.kotlin_grammar.specs.declared.ahead.Step.{Step}
use Rattle.kotlin_grammar.specs.declared.ahead.Step.TheVariants as st
use Rattle.kotlin_grammar.specs.Table.{accepts}

abbrev pub Letters : Type 0
Letters = List Letter

abbrev pub is_plain : Gap → Bool
is_plain gap.Plain = true
is_plain gap.Line = false
is_plain gap.Semicolon = false

abbrev pub is_semicolon : Gap → Bool
is_semicolon gap.Plain = false
is_semicolon gap.Line = false
is_semicolon gap.Semicolon = true

abbrev pub with_gap : Gap → KToken → KToken
with_gap g t = record { kind = t.kind; gap = g; position = t.position }

-- ---- line ends that are blanks by the token behind them

-- `.`, `:`, `&&`, `||`, `{`, `}`, `catch`, `finally`, and an `else` that no `->` follows
abbrev pub blank_before : Kind → Bool
blank_before k.Dot = true
blank_before k.Colon = true
blank_before k.AndAnd = true
blank_before k.OrOr = true
blank_before k.OpenCurly = true
blank_before k.OpenParameters = true
blank_before k.CloseCurly = true
blank_before k.Catch = true
blank_before k.FinallyWord = true
blank_before k.Else = true
blank_before _ = false

abbrev pub without_line : Gap → Gap
without_line gap.Plain = gap.Plain
without_line gap.Line = gap.Plain
without_line gap.Semicolon = gap.Semicolon

abbrev pub gap_before : Kind → Gap → Gap
gap_before c g = if blank_before c then without_line g else g

-- ---- looking ahead

-- whether such a kind stands first, with no end before it
abbrev pub stands_by : (Kind → Bool) → Option Letter → Bool
stands_by p None = false
stands_by p (Some l) = is_plain l.token.gap && p l.kind

abbrev pub stands : (Kind → Bool) → Letters → Bool
stands p ls = stands_by p (slice_get ls 0)

abbrev pub is_less : Kind → Bool
is_less k.Less = true
is_less _ = false

abbrev pub is_at : Kind → Bool
is_at k.At = true
is_at _ = false

abbrev pub is_arrow : Kind → Bool
is_arrow k.Arrow = true
is_arrow _ = false

abbrev pub is_round : Kind → Bool
is_round k.OpenRound = true
is_round _ = false

abbrev pub is_curly : Kind → Bool
is_curly k.OpenCurly = true
is_curly k.OpenParameters = true
is_curly _ = false

abbrev pub is_question : Kind → Bool
is_question k.Question = true
is_question _ = false

abbrev pub is_set : Kind → Bool
is_set k.SetWord = true
is_set _ = false

-- `(`, or `{` with or without a `?` before it
abbrev pub opens_by : Option Letter → Option Letter → Bool
opens_by None next = false
opens_by (Some l) next = is_plain l.token.gap && (if is_question l.kind then stands_by is_curly next else (is_round l.kind || is_curly l.kind))

abbrev pub opens : Letters → Bool
opens ls = opens_by (slice_get ls 0) (slice_get ls 1)

-- What a kind does at a spot among the arguments of a type.
abbrev pub step : Spot → Kind → Step
step at.Type c = if accepts t.AnyName c then st.To at.Name else st.Out
step at.Name k.Dot = st.To at.Type
step at.Name k.Less = st.Open
step at.Name k.Question = st.To at.Asked
step at.Name k.Comma = st.To at.Type
step at.Name k.Greater = st.Close
step at.Name _ = st.Out
step at.Closed k.Question = st.To at.Asked
step at.Closed k.Comma = st.To at.Type
step at.Closed k.Greater = st.Close
step at.Closed _ = st.Out
step at.Asked k.Comma = st.To at.Type
step at.Asked k.Greater = st.Close
step at.Asked _ = st.Out

abbrev pub goes_on : Step → ℕ → (Spot → ℕ → Bool) → Bool → Bool
goes_on (st.To spot) n more ended = more spot n
goes_on st.Open n more ended = more at.Type (suc n)
goes_on st.Close zero more ended = ended
goes_on st.Close (suc n) more ended = more at.Closed n
goes_on st.Out n more ended = false

-- With one `<` open and so many more, types with commas between, as many `>`, and then what a call or a lambda begins with. No `;`
-- stands between.
unfoldable pub arguments_follow : Spot → ℕ → Letters → Bool
arguments_follow spot n [] = false
arguments_follow spot n (l ∷ ls) = if is_semicolon l.token.gap then false else goes_on (step spot l.kind) n (λ p i. arguments_follow p i ls) (opens ls)

abbrev pub names_on : Bool → Kind → (Bool → Bool) → Bool
names_on true k.Comma more = more false
names_on true k.Arrow more = true
names_on true _ more = false
names_on false c more = if accepts t.Name c then more true else false

-- Names with commas between, and then `->`. The first says whether a name has just stood.
unfoldable pub names_follow : Bool → Letters → Bool
names_follow was [] = false
names_follow was (l ∷ ls) = if is_semicolon l.token.gap then false else names_on was l.kind (λ b. names_follow b ls)

-- ---- the kind of a token, by the letters behind it

abbrev pub arguments_ahead : Letters → Bool
arguments_ahead ls = arguments_follow at.Type 0 (drop 1 ls)

abbrev pub label_of : Kind → Kind
label_of k.ModifierWord = k.LabelModifier
label_of k.PrivateWord = k.LabelModifier
label_of k.AnnotationWord = k.LabelAnnotation
label_of _ = k.Label

-- of a name, where it isn't the word of a block
unfoldable pub named : Kind → Letters → Kind
named c ls = if stands is_less ls then (if arguments_ahead ls then k.NameArguments else k.NameLess) else (if stands is_at ls then label_of c else c)

-- `set`, also on the next line
abbrev pub set_ahead_by : Option Letter → Bool
set_ahead_by None = false
set_ahead_by (Some l) = if is_semicolon l.token.gap then false else is_set l.kind

abbrev pub set_ahead : Letters → Bool
set_ahead ls = set_ahead_by (slice_get ls 0)

abbrev pub curly_kind : Letters → Kind
curly_kind ls = if stands is_arrow ls then k.OpenParameters else (if names_follow false ls then k.OpenParameters else k.OpenCurly)

unfoldable pub mark_kind : Mark → Letters → Kind
mark_kind m.OpenRound ls = k.OpenRound
mark_kind m.CloseRound ls = k.CloseRound
mark_kind m.OpenSquare ls = k.OpenSquare
mark_kind m.CloseSquare ls = k.CloseSquare
mark_kind m.OpenCurly ls = curly_kind ls
mark_kind m.CloseCurly ls = k.CloseCurly
mark_kind m.Comma ls = k.Comma
mark_kind m.Dot ls = k.Dot
mark_kind m.At ls = k.At
mark_kind m.Question ls = k.Question
mark_kind m.Colon ls = k.Colon
mark_kind m.DoubleColon ls = k.DoubleColon
mark_kind m.Assign ls = k.Assign
mark_kind m.Equal ls = k.Equality
mark_kind m.Identical ls = k.Equality
mark_kind m.Not ls = k.Not
mark_kind m.NotNull ls = k.NotNull
mark_kind m.NotEqual ls = k.Equality
mark_kind m.NotIdentical ls = k.Equality
mark_kind m.Plus ls = k.Sign
mark_kind m.PlusPlus ls = k.Step
mark_kind m.Minus ls = k.Sign
mark_kind m.MinusMinus ls = k.Step
mark_kind m.Arrow ls = k.Arrow
mark_kind m.Star ls = k.Times
mark_kind m.Slash ls = k.Times
mark_kind m.Percent ls = k.Times
mark_kind m.AndAnd ls = k.AndAnd
mark_kind m.OrOr ls = k.OrOr
mark_kind m.Less ls = k.Less
mark_kind m.LessEqual ls = k.Compare
mark_kind m.Greater ls = k.Greater
mark_kind m.GreaterEqual ls = k.Compare

unfoldable pub keyword_kind : Keyword → Letters → Kind
keyword_kind h.As ls = k.As
keyword_kind h.Break ls = k.Break
keyword_kind h.Class ls = k.Class
keyword_kind h.Continue ls = k.Continue
keyword_kind h.Do ls = k.Do
keyword_kind h.Else ls = if stands is_arrow ls then k.ElseArrow else k.Else
keyword_kind h.False ls = k.Literal
keyword_kind h.For ls = k.For
keyword_kind h.Fun ls = k.Fun
keyword_kind h.If ls = k.If
keyword_kind h.In ls = k.In
keyword_kind h.Interface ls = k.Interface
keyword_kind h.Is ls = k.Is
keyword_kind h.Null ls = k.Literal
keyword_kind h.Object ls = k.Object
keyword_kind h.Package ls = k.Package
keyword_kind h.Return ls = k.Return
keyword_kind h.Super ls = k.SuperWord
keyword_kind h.This ls = k.This
keyword_kind h.Throw ls = k.Throw
keyword_kind h.True ls = k.Literal
keyword_kind h.Try ls = k.Try
keyword_kind h.Typealias ls = k.Unused
keyword_kind h.Typeof ls = k.Unused
keyword_kind h.Val ls = k.Val
keyword_kind h.Var ls = k.Var
keyword_kind h.When ls = k.When
keyword_kind h.While ls = k.While

unfoldable pub word_kind : Word → Letters → Kind
word_kind o.Abstract ls = named k.ModifierWord ls
word_kind o.And ls = named k.InfixWord ls
word_kind o.Catch ls = k.Catch
word_kind o.Companion ls = named k.CompanionWord ls
word_kind o.Const ls = named k.ModifierWord ls
word_kind o.Constructor ls = named k.ConstructorWord ls
word_kind o.Finally ls = k.FinallyWord
word_kind o.Import ls = named k.ImportWord ls
word_kind o.Init ls = named k.InitWord ls
word_kind o.Java ls = named k.JavaWord ls
word_kind o.JvmField ls = named k.AnnotationWord ls
word_kind o.JvmStatic ls = named k.AnnotationWord ls
word_kind o.Open ls = named k.ModifierWord ls
word_kind o.Or ls = named k.InfixWord ls
word_kind o.Override ls = named k.ModifierWord ls
word_kind o.Private ls = if set_ahead ls then k.PrivateSet else named k.PrivateWord ls
word_kind o.Run ls = if stands is_curly ls then k.RunBlock else named k.Name ls
word_kind o.Set ls = named k.SetWord ls
word_kind o.Shl ls = named k.InfixWord ls
word_kind o.Shr ls = named k.InfixWord ls
word_kind o.SynchronizedBlock ls = if stands is_round ls then k.SynchronizedBlock else named k.Name ls
word_kind o.SynchronizedMethod ls = named k.AnnotationWord ls
word_kind o.Until ls = named k.UntilWord ls
word_kind o.Ushr ls = named k.InfixWord ls
word_kind o.Volatile ls = named k.AnnotationWord ls
word_kind o.Xor ls = named k.InfixWord ls

abbrev pub kind_of : TokenKind → Letters → Kind
kind_of (q.Mark x) ls = mark_kind x ls
kind_of (q.Keyword x) ls = keyword_kind x ls
kind_of (q.Word x) ls = word_kind x ls
kind_of (q.Name x) ls = named k.Name ls
kind_of (q.Integer x) ls = k.Literal
kind_of (q.Long x) ls = k.Literal
kind_of (q.Character x) ls = k.Literal
kind_of (q.Text x) ls = k.Literal
kind_of q.End ls = k.Unused

abbrev pub letter_by : Kind → KToken → Letter
letter_by c t = record { kind = c; token = with_gap (gap_before c t.gap) t }

abbrev pub letter : KToken → Letters → Letter
letter t ls = letter_by (kind_of t.kind ls) t

-- the tokens with their kinds
unfoldable pub letters : List KToken → Letters
letters [] = []
letters (t ∷ ts) = letter t (letters ts) ∷ letters ts

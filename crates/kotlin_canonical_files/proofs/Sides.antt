-- Which tokens open a bracket and which close one: a terminal tells it of the tokens that it takes.
use Rattle.std.proofs.Common.{◌≡◌, ℕ, Bool, true, false, List, [], ◌∷◌, Option, Some, None, refl, ap, sym, ◌∙◌, arith}
use Rattle.std.specs.Prelude.{if◌then◌else◌, nat_eq, ◌||◌}
use Rattle.std.proofs.lemmas.Bool.Decides.{nat_tests}
use Rattle.kotlin_tree.specs.declared.tokens.Gap.{Gap}
use Rattle.kotlin_tree.specs.declared.tokens.Gap.TheVariants as gap
use Rattle.kotlin_tree.specs.declared.tokens.Mark.{Mark}
use Rattle.kotlin_tree.specs.declared.tokens.Mark.TheVariants as m
use Rattle.kotlin_tree.specs.declared.tokens.Keyword.{Keyword}
use Rattle.kotlin_tree.specs.declared.tokens.Keyword.TheVariants as h
use Rattle.kotlin_tree.specs.declared.tokens.Word.{Word}
use Rattle.kotlin_tree.specs.declared.tokens.Word.TheVariants as o
use Rattle.kotlin_tree.specs.declared.tokens.TokenKind.{TokenKind}
use Rattle.kotlin_tree.specs.declared.tokens.TokenKind.TheVariants as q
use Rattle.kotlin_tree.specs.declared.tokens.KToken.{KToken}
use Rattle.kotlin_grammar.specs.declared.letters.Kind.{Kind}
use Rattle.kotlin_grammar.specs.declared.letters.Kind.TheVariants as k
use Rattle.kotlin_grammar.specs.declared.letters.Term.{Term}
use Rattle.kotlin_grammar.specs.declared.letters.Term.TheVariants as t
use Rattle.kotlin_grammar.specs.declared.ahead.Letter.{Letter}
use Rattle.kotlin_grammar.specs.declared.built.Built.{Built}
use Rattle.kotlin_grammar.specs.Table.{code, accepts, blank_after, is_end}
use Rattle.kotlin_grammar.specs.Ahead.{Letters, is_plain, letters, mark_kind, keyword_kind, word_kind, kind_of, named, label_of, stands, is_less, is_at, is_arrow, is_curly, is_round, arguments_ahead, names_follow, set_ahead}
use Rattle.kotlin_grammar.specs.Taking.{broken, kind_behind, kind, takes, relaxed, left, behind}
use Rattle.kotlin_grammar.specs.Meaning.{taken}

pub data Side : Type 0 where
  Neither : Side
  Opens : Side
  Closes : Side
  ClosesCurly : Side

abbrev pub mark_side : Mark → Side
mark_side m.OpenRound = Side.Opens
mark_side m.OpenSquare = Side.Opens
mark_side m.OpenCurly = Side.Opens
mark_side m.CloseRound = Side.Closes
mark_side m.CloseSquare = Side.Closes
mark_side m.CloseCurly = Side.ClosesCurly
mark_side _ = Side.Neither

abbrev pub token_side : TokenKind → Side
token_side (q.Mark x) = mark_side x
token_side _ = Side.Neither

-- by the number of a kind
abbrev side_of : ℕ → Side
side_of i =
    if nat_eq i (code k.CloseCurly) then Side.ClosesCurly else (if nat_eq i (code k.CloseRound) || nat_eq i (code k.CloseSquare) then Side.Closes
    else (if nat_eq i (code k.OpenRound) || nat_eq i (code k.OpenSquare) || nat_eq i (code k.OpenCurly) || nat_eq i (code k.OpenParameters) then Side.Opens else Side.Neither))

abbrev pub kind_side : Kind → Side
kind_side c = side_of (code c)

abbrev pub term_side : Term → Side
term_side (t.Only c) = kind_side c
term_side t.WhenCurly = Side.Opens
term_side _ = Side.Neither

same_number : (a b : ℕ) → nat_eq a b ≡ true → a ≡ b
same_number a b is = grind (arith, nat_tests)

plain_kind : (p : Kind → Bool) → p k.OpenRound ≡ false → p k.CloseRound ≡ false → p k.OpenSquare ≡ false → p k.CloseSquare ≡ false → p k.OpenCurly ≡ false → p k.OpenParameters ≡ false → p k.CloseCurly ≡ false
    → (c : Kind) → p c ≡ true → kind_side c ≡ Side.Neither
plain_kind p h0 h1 h2 h3 h4 h5 h6 k.End is = refl
plain_kind p h0 h1 h2 h3 h4 h5 h6 k.Broken is = refl
plain_kind p h0 h1 h2 h3 h4 h5 h6 k.BrokenWhile is = refl
plain_kind p h0 h1 h2 h3 h4 h5 h6 k.BrokenSet is = refl
plain_kind p h0 h1 h2 h3 h4 h5 h6 k.Name is = refl
plain_kind p h0 h1 h2 h3 h4 h5 h6 k.NameArguments is = refl
plain_kind p h0 h1 h2 h3 h4 h5 h6 k.NameLess is = refl
plain_kind p h0 h1 h2 h3 h4 h5 h6 k.Label is = refl
plain_kind p h0 h1 h2 h3 h4 h5 h6 k.LabelModifier is = refl
plain_kind p h0 h1 h2 h3 h4 h5 h6 k.LabelAnnotation is = refl
plain_kind p h0 h1 h2 h3 h4 h5 h6 k.InfixWord is = refl
plain_kind p h0 h1 h2 h3 h4 h5 h6 k.UntilWord is = refl
plain_kind p h0 h1 h2 h3 h4 h5 h6 k.CompanionWord is = refl
plain_kind p h0 h1 h2 h3 h4 h5 h6 k.InitWord is = refl
plain_kind p h0 h1 h2 h3 h4 h5 h6 k.ConstructorWord is = refl
plain_kind p h0 h1 h2 h3 h4 h5 h6 k.SetWord is = refl
plain_kind p h0 h1 h2 h3 h4 h5 h6 k.JavaWord is = refl
plain_kind p h0 h1 h2 h3 h4 h5 h6 k.ImportWord is = refl
plain_kind p h0 h1 h2 h3 h4 h5 h6 k.PrivateWord is = refl
plain_kind p h0 h1 h2 h3 h4 h5 h6 k.PrivateSet is = refl
plain_kind p h0 h1 h2 h3 h4 h5 h6 k.ModifierWord is = refl
plain_kind p h0 h1 h2 h3 h4 h5 h6 k.AnnotationWord is = refl
plain_kind p h0 h1 h2 h3 h4 h5 h6 k.RunBlock is = refl
plain_kind p h0 h1 h2 h3 h4 h5 h6 k.SynchronizedBlock is = refl
plain_kind p h0 h1 h2 h3 h4 h5 h6 k.Catch is = refl
plain_kind p h0 h1 h2 h3 h4 h5 h6 k.FinallyWord is = refl
plain_kind p h0 h1 h2 h3 h4 h5 h6 k.Literal is = refl
plain_kind p h0 h1 h2 h3 h4 h5 h6 k.As is = refl
plain_kind p h0 h1 h2 h3 h4 h5 h6 k.Break is = refl
plain_kind p h0 h1 h2 h3 h4 h5 h6 k.Class is = refl
plain_kind p h0 h1 h2 h3 h4 h5 h6 k.Continue is = refl
plain_kind p h0 h1 h2 h3 h4 h5 h6 k.Do is = refl
plain_kind p h0 h1 h2 h3 h4 h5 h6 k.Else is = refl
plain_kind p h0 h1 h2 h3 h4 h5 h6 k.ElseArrow is = refl
plain_kind p h0 h1 h2 h3 h4 h5 h6 k.For is = refl
plain_kind p h0 h1 h2 h3 h4 h5 h6 k.Fun is = refl
plain_kind p h0 h1 h2 h3 h4 h5 h6 k.If is = refl
plain_kind p h0 h1 h2 h3 h4 h5 h6 k.In is = refl
plain_kind p h0 h1 h2 h3 h4 h5 h6 k.Interface is = refl
plain_kind p h0 h1 h2 h3 h4 h5 h6 k.Is is = refl
plain_kind p h0 h1 h2 h3 h4 h5 h6 k.Object is = refl
plain_kind p h0 h1 h2 h3 h4 h5 h6 k.Package is = refl
plain_kind p h0 h1 h2 h3 h4 h5 h6 k.Return is = refl
plain_kind p h0 h1 h2 h3 h4 h5 h6 k.SuperWord is = refl
plain_kind p h0 h1 h2 h3 h4 h5 h6 k.This is = refl
plain_kind p h0 h1 h2 h3 h4 h5 h6 k.Throw is = refl
plain_kind p h0 h1 h2 h3 h4 h5 h6 k.Try is = refl
plain_kind p h0 h1 h2 h3 h4 h5 h6 k.Val is = refl
plain_kind p h0 h1 h2 h3 h4 h5 h6 k.Var is = refl
plain_kind p h0 h1 h2 h3 h4 h5 h6 k.When is = refl
plain_kind p h0 h1 h2 h3 h4 h5 h6 k.While is = refl
plain_kind p h0 h1 h2 h3 h4 h5 h6 k.Unused is = refl
plain_kind p h0 h1 h2 h3 h4 h5 h6 k.OpenRound is = absurd (cc (sym h0 ∙ is))
plain_kind p h0 h1 h2 h3 h4 h5 h6 k.CloseRound is = absurd (cc (sym h1 ∙ is))
plain_kind p h0 h1 h2 h3 h4 h5 h6 k.OpenSquare is = absurd (cc (sym h2 ∙ is))
plain_kind p h0 h1 h2 h3 h4 h5 h6 k.CloseSquare is = absurd (cc (sym h3 ∙ is))
plain_kind p h0 h1 h2 h3 h4 h5 h6 k.OpenCurly is = absurd (cc (sym h4 ∙ is))
plain_kind p h0 h1 h2 h3 h4 h5 h6 k.OpenParameters is = absurd (cc (sym h5 ∙ is))
plain_kind p h0 h1 h2 h3 h4 h5 h6 k.CloseCurly is = absurd (cc (sym h6 ∙ is))
plain_kind p h0 h1 h2 h3 h4 h5 h6 k.Comma is = refl
plain_kind p h0 h1 h2 h3 h4 h5 h6 k.Dot is = refl
plain_kind p h0 h1 h2 h3 h4 h5 h6 k.At is = refl
plain_kind p h0 h1 h2 h3 h4 h5 h6 k.Question is = refl
plain_kind p h0 h1 h2 h3 h4 h5 h6 k.Colon is = refl
plain_kind p h0 h1 h2 h3 h4 h5 h6 k.DoubleColon is = refl
plain_kind p h0 h1 h2 h3 h4 h5 h6 k.Assign is = refl
plain_kind p h0 h1 h2 h3 h4 h5 h6 k.Equality is = refl
plain_kind p h0 h1 h2 h3 h4 h5 h6 k.Not is = refl
plain_kind p h0 h1 h2 h3 h4 h5 h6 k.NotNull is = refl
plain_kind p h0 h1 h2 h3 h4 h5 h6 k.Sign is = refl
plain_kind p h0 h1 h2 h3 h4 h5 h6 k.Step is = refl
plain_kind p h0 h1 h2 h3 h4 h5 h6 k.Arrow is = refl
plain_kind p h0 h1 h2 h3 h4 h5 h6 k.Times is = refl
plain_kind p h0 h1 h2 h3 h4 h5 h6 k.AndAnd is = refl
plain_kind p h0 h1 h2 h3 h4 h5 h6 k.OrOr is = refl
plain_kind p h0 h1 h2 h3 h4 h5 h6 k.Less is = refl
plain_kind p h0 h1 h2 h3 h4 h5 h6 k.Greater is = refl
plain_kind p h0 h1 h2 h3 h4 h5 h6 k.Compare is = refl

when_side : (c : Kind) → accepts t.WhenCurly c ≡ true → kind_side c ≡ Side.Opens
unfolding accepts
when_side k.End is = absurd (cc is)
when_side k.Broken is = absurd (cc is)
when_side k.BrokenWhile is = absurd (cc is)
when_side k.BrokenSet is = absurd (cc is)
when_side k.Name is = absurd (cc is)
when_side k.NameArguments is = absurd (cc is)
when_side k.NameLess is = absurd (cc is)
when_side k.Label is = absurd (cc is)
when_side k.LabelModifier is = absurd (cc is)
when_side k.LabelAnnotation is = absurd (cc is)
when_side k.InfixWord is = absurd (cc is)
when_side k.UntilWord is = absurd (cc is)
when_side k.CompanionWord is = absurd (cc is)
when_side k.InitWord is = absurd (cc is)
when_side k.ConstructorWord is = absurd (cc is)
when_side k.SetWord is = absurd (cc is)
when_side k.JavaWord is = absurd (cc is)
when_side k.ImportWord is = absurd (cc is)
when_side k.PrivateWord is = absurd (cc is)
when_side k.PrivateSet is = absurd (cc is)
when_side k.ModifierWord is = absurd (cc is)
when_side k.AnnotationWord is = absurd (cc is)
when_side k.RunBlock is = absurd (cc is)
when_side k.SynchronizedBlock is = absurd (cc is)
when_side k.Catch is = absurd (cc is)
when_side k.FinallyWord is = absurd (cc is)
when_side k.Literal is = absurd (cc is)
when_side k.As is = absurd (cc is)
when_side k.Break is = absurd (cc is)
when_side k.Class is = absurd (cc is)
when_side k.Continue is = absurd (cc is)
when_side k.Do is = absurd (cc is)
when_side k.Else is = absurd (cc is)
when_side k.ElseArrow is = absurd (cc is)
when_side k.For is = absurd (cc is)
when_side k.Fun is = absurd (cc is)
when_side k.If is = absurd (cc is)
when_side k.In is = absurd (cc is)
when_side k.Interface is = absurd (cc is)
when_side k.Is is = absurd (cc is)
when_side k.Object is = absurd (cc is)
when_side k.Package is = absurd (cc is)
when_side k.Return is = absurd (cc is)
when_side k.SuperWord is = absurd (cc is)
when_side k.This is = absurd (cc is)
when_side k.Throw is = absurd (cc is)
when_side k.Try is = absurd (cc is)
when_side k.Val is = absurd (cc is)
when_side k.Var is = absurd (cc is)
when_side k.When is = absurd (cc is)
when_side k.While is = absurd (cc is)
when_side k.Unused is = absurd (cc is)
when_side k.OpenRound is = absurd (cc is)
when_side k.CloseRound is = absurd (cc is)
when_side k.OpenSquare is = absurd (cc is)
when_side k.CloseSquare is = absurd (cc is)
when_side k.OpenCurly is = refl
when_side k.OpenParameters is = refl
when_side k.CloseCurly is = absurd (cc is)
when_side k.Comma is = absurd (cc is)
when_side k.Dot is = absurd (cc is)
when_side k.At is = absurd (cc is)
when_side k.Question is = absurd (cc is)
when_side k.Colon is = absurd (cc is)
when_side k.DoubleColon is = absurd (cc is)
when_side k.Assign is = absurd (cc is)
when_side k.Equality is = absurd (cc is)
when_side k.Not is = absurd (cc is)
when_side k.NotNull is = absurd (cc is)
when_side k.Sign is = absurd (cc is)
when_side k.Step is = absurd (cc is)
when_side k.Arrow is = absurd (cc is)
when_side k.Times is = absurd (cc is)
when_side k.AndAnd is = absurd (cc is)
when_side k.OrOr is = absurd (cc is)
when_side k.Less is = absurd (cc is)
when_side k.Greater is = absurd (cc is)
when_side k.Compare is = absurd (cc is)

broken_side : (c : Kind) → kind_side (broken c) ≡ Side.Neither
broken_side k.End = refl
broken_side k.Broken = refl
broken_side k.BrokenWhile = refl
broken_side k.BrokenSet = refl
broken_side k.Name = refl
broken_side k.NameArguments = refl
broken_side k.NameLess = refl
broken_side k.Label = refl
broken_side k.LabelModifier = refl
broken_side k.LabelAnnotation = refl
broken_side k.InfixWord = refl
broken_side k.UntilWord = refl
broken_side k.CompanionWord = refl
broken_side k.InitWord = refl
broken_side k.ConstructorWord = refl
broken_side k.SetWord = refl
broken_side k.JavaWord = refl
broken_side k.ImportWord = refl
broken_side k.PrivateWord = refl
broken_side k.PrivateSet = refl
broken_side k.ModifierWord = refl
broken_side k.AnnotationWord = refl
broken_side k.RunBlock = refl
broken_side k.SynchronizedBlock = refl
broken_side k.Catch = refl
broken_side k.FinallyWord = refl
broken_side k.Literal = refl
broken_side k.As = refl
broken_side k.Break = refl
broken_side k.Class = refl
broken_side k.Continue = refl
broken_side k.Do = refl
broken_side k.Else = refl
broken_side k.ElseArrow = refl
broken_side k.For = refl
broken_side k.Fun = refl
broken_side k.If = refl
broken_side k.In = refl
broken_side k.Interface = refl
broken_side k.Is = refl
broken_side k.Object = refl
broken_side k.Package = refl
broken_side k.Return = refl
broken_side k.SuperWord = refl
broken_side k.This = refl
broken_side k.Throw = refl
broken_side k.Try = refl
broken_side k.Val = refl
broken_side k.Var = refl
broken_side k.When = refl
broken_side k.While = refl
broken_side k.Unused = refl
broken_side k.OpenRound = refl
broken_side k.CloseRound = refl
broken_side k.OpenSquare = refl
broken_side k.CloseSquare = refl
broken_side k.OpenCurly = refl
broken_side k.OpenParameters = refl
broken_side k.CloseCurly = refl
broken_side k.Comma = refl
broken_side k.Dot = refl
broken_side k.At = refl
broken_side k.Question = refl
broken_side k.Colon = refl
broken_side k.DoubleColon = refl
broken_side k.Assign = refl
broken_side k.Equality = refl
broken_side k.Not = refl
broken_side k.NotNull = refl
broken_side k.Sign = refl
broken_side k.Step = refl
broken_side k.Arrow = refl
broken_side k.Times = refl
broken_side k.AndAnd = refl
broken_side k.OrOr = refl
broken_side k.Less = refl
broken_side k.Greater = refl
broken_side k.Compare = refl

-- what a terminal accepts is of its side
accepted_side : (c : Term) (i : Kind) → is_end c ≡ false → accepts c i ≡ true → kind_side i ≡ term_side c
unfolding accepts
accepted_side (t.Only c) i other is = sym (ap side_of (same_number (code c) (code i) is))
accepted_side t.Name i other is = plain_kind (accepts t.Name) refl refl refl refl refl refl refl i is
accepted_side t.AnyName i other is = plain_kind (accepts t.AnyName) refl refl refl refl refl refl refl i is
accepted_side t.TypeName i other is = plain_kind (accepts t.TypeName) refl refl refl refl refl refl refl i is
accepted_side t.TypeNameArguments i other is = plain_kind (accepts t.TypeNameArguments) refl refl refl refl refl refl refl i is
accepted_side t.TargetName i other is = plain_kind (accepts t.TargetName) refl refl refl refl refl refl refl i is
accepted_side t.LabelName i other is = plain_kind (accepts t.LabelName) refl refl refl refl refl refl refl i is
accepted_side t.Modifier i other is = plain_kind (accepts t.Modifier) refl refl refl refl refl refl refl i is
accepted_side t.Annotation i other is = plain_kind (accepts t.Annotation) refl refl refl refl refl refl refl i is
accepted_side t.ClassOrInterface i other is = plain_kind (accepts t.ClassOrInterface) refl refl refl refl refl refl refl i is
accepted_side t.Variability i other is = plain_kind (accepts t.Variability) refl refl refl refl refl refl refl i is
accepted_side t.ThisOrSuper i other is = plain_kind (accepts t.ThisOrSuper) refl refl refl refl refl refl refl i is
accepted_side t.WhenCurly i other is = when_side i is
accepted_side t.WhileOfDo i other is = plain_kind (accepts t.WhileOfDo) refl refl refl refl refl refl refl i is
accepted_side t.PrivateOfSet i other is = plain_kind (accepts t.PrivateOfSet) refl refl refl refl refl refl refl i is
accepted_side t.TypeLess i other is = plain_kind (accepts t.TypeLess) refl refl refl refl refl refl refl i is
accepted_side t.CompareMark i other is = plain_kind (accepts t.CompareMark) refl refl refl refl refl refl refl i is
accepted_side t.PrefixMark i other is = plain_kind (accepts t.PrefixMark) refl refl refl refl refl refl refl i is
accepted_side t.PostfixMark i other is = plain_kind (accepts t.PostfixMark) refl refl refl refl refl refl refl i is
accepted_side t.Ends i other is = absurd (cc other)
accepted_side t.MemberEnds i other is = absurd (cc other)

-- also behind a line end or a `;`
side_behind : (c : Term) (g : Gap) (i : Kind) → is_end c ≡ false → accepts c k.Broken ≡ false → accepts c (kind_behind g i) ≡ true → kind_side i ≡ term_side c
side_behind c gap.Plain i other free is = accepted_side c i other is
side_behind c gap.Line i other free is =
    plain_kind (λ z. accepts c (broken z)) free free free free free free free i is ∙ sym (broken_side i) ∙ accepted_side c (broken i) other is
side_behind c gap.Semicolon i other free is = absurd (cc (sym free ∙ is))

-- ---- letters

abbrev pub sides : Letters → List Side
sides [] = []
sides (l ∷ ls) = kind_side l.kind ∷ sides ls

relaxed_sides : (ls : Letters) → sides (relaxed ls) ≡ sides ls
relaxed_sides [] = refl
relaxed_sides (l ∷ ls) = refl

left_sides : (b : Bool) (ls : Letters) → sides (if b then relaxed ls else ls) ≡ sides ls
left_sides true ls = relaxed_sides ls
left_sides false ls = refl

abbrev rest_of : Option (Built × Letters) → Letters
rest_of None = []
rest_of (Some x) = x.1

-- what a terminal takes is of its side, and the rest is left
token_by : (a e : Bool) (b : Built) (o : Option (Built × Letters)) (ls : Letters) (x : Built × Letters) → e ≡ false
    → (if a then (if e then o else Some (b, ls)) else None) ≡ Some x → (a ≡ true) × (ls ≡ x.1)
token_by true true b o ls x other is = absurd (cc other)
token_by true false b o ls x other is = (refl, ap rest_of is)
token_by false e b o ls x other is = absurd (cc is)

pub token_taken : (c : Term) (b : Built) (l : Letter) (ls : Letters) (x : Built × Letters) → is_end c ≡ false → accepts c k.Broken ≡ false → takes taken c b (l ∷ ls) ≡ Some x
    → (kind_side l.kind ≡ term_side c) × (sides x.1 ≡ sides ls)
unfolding takes
token_taken c b l ls x other free is =
    let a = token_by (accepts c (kind (l ∷ ls))) (is_end c) (taken c l.token b) _ (left c ls) x other is in
    (side_behind c l.token.gap l.kind other free a.0, sym (ap sides a.1) ∙ left_sides (blank_after c) ls)

-- an end takes no token
end_by : (a e p : Bool) (b : Built) (o : Option (Built × Letters)) (ls : Letters) (x : Built × Letters) → e ≡ true
    → (if a then (if e then (if p then None else Some (b, ls)) else o) else None) ≡ Some x → ls ≡ x.1
end_by true true true b o ls x is has = absurd (cc has)
end_by true true false b o ls x is has = ap rest_of has
end_by true false p b o ls x is has = absurd (cc is)
end_by false e p b o ls x is has = absurd (cc has)

pub end_taken : (c : Term) (b : Built) (l : Letter) (ls : Letters) (x : Built × Letters) → is_end c ≡ true → takes taken c b (l ∷ ls) ≡ Some x → sides x.1 ≡ sides (l ∷ ls)
unfolding takes
end_taken c b l ls x is has =
    sym (ap sides (end_by (accepts c (kind (l ∷ ls))) (is_end c) (is_plain l.token.gap) b _ (behind gap.Plain l ∷ ls) x is has))

-- ---- the kinds of tokens

either : (b : Bool) (c i : Kind) (z : Side) → kind_side c ≡ z → kind_side i ≡ z → kind_side (if b then c else i) ≡ z
either true c i z first second = first
either false c i z first second = second

named_side : (c : Kind) (ls : Letters) → kind_side c ≡ Side.Neither → kind_side (label_of c) ≡ Side.Neither → kind_side (named c ls) ≡ Side.Neither
unfolding named
named_side c ls first second = either (stands is_less ls) (if arguments_ahead ls then k.NameArguments else k.NameLess) (if stands is_at ls then label_of c else c) Side.Neither
    (either (arguments_ahead ls) k.NameArguments k.NameLess Side.Neither refl refl) (either (stands is_at ls) (label_of c) c Side.Neither second first)

mark_matched : (x : Mark) (ls : Letters) → kind_side (mark_kind x ls) ≡ mark_side x
unfolding mark_kind
mark_matched m.OpenRound ls = refl
mark_matched m.CloseRound ls = refl
mark_matched m.OpenSquare ls = refl
mark_matched m.CloseSquare ls = refl
mark_matched m.OpenCurly ls = either (stands is_arrow ls) k.OpenParameters (if names_follow false ls then k.OpenParameters else k.OpenCurly) Side.Opens refl (either (names_follow false ls) k.OpenParameters k.OpenCurly Side.Opens refl refl)
mark_matched m.CloseCurly ls = refl
mark_matched m.Comma ls = refl
mark_matched m.Dot ls = refl
mark_matched m.At ls = refl
mark_matched m.Question ls = refl
mark_matched m.Colon ls = refl
mark_matched m.DoubleColon ls = refl
mark_matched m.Assign ls = refl
mark_matched m.Equal ls = refl
mark_matched m.Identical ls = refl
mark_matched m.Not ls = refl
mark_matched m.NotNull ls = refl
mark_matched m.NotEqual ls = refl
mark_matched m.NotIdentical ls = refl
mark_matched m.Plus ls = refl
mark_matched m.PlusPlus ls = refl
mark_matched m.Minus ls = refl
mark_matched m.MinusMinus ls = refl
mark_matched m.Arrow ls = refl
mark_matched m.Star ls = refl
mark_matched m.Slash ls = refl
mark_matched m.Percent ls = refl
mark_matched m.AndAnd ls = refl
mark_matched m.OrOr ls = refl
mark_matched m.Less ls = refl
mark_matched m.LessEqual ls = refl
mark_matched m.Greater ls = refl
mark_matched m.GreaterEqual ls = refl

keyword_matched : (x : Keyword) (ls : Letters) → kind_side (keyword_kind x ls) ≡ Side.Neither
unfolding keyword_kind
keyword_matched h.As ls = refl
keyword_matched h.Break ls = refl
keyword_matched h.Class ls = refl
keyword_matched h.Continue ls = refl
keyword_matched h.Do ls = refl
keyword_matched h.Else ls = either (stands is_arrow ls) k.ElseArrow k.Else Side.Neither refl refl
keyword_matched h.False ls = refl
keyword_matched h.For ls = refl
keyword_matched h.Fun ls = refl
keyword_matched h.If ls = refl
keyword_matched h.In ls = refl
keyword_matched h.Interface ls = refl
keyword_matched h.Is ls = refl
keyword_matched h.Null ls = refl
keyword_matched h.Object ls = refl
keyword_matched h.Package ls = refl
keyword_matched h.Return ls = refl
keyword_matched h.Super ls = refl
keyword_matched h.This ls = refl
keyword_matched h.Throw ls = refl
keyword_matched h.True ls = refl
keyword_matched h.Try ls = refl
keyword_matched h.Typealias ls = refl
keyword_matched h.Typeof ls = refl
keyword_matched h.Val ls = refl
keyword_matched h.Var ls = refl
keyword_matched h.When ls = refl
keyword_matched h.While ls = refl

word_matched : (x : Word) (ls : Letters) → kind_side (word_kind x ls) ≡ Side.Neither
unfolding word_kind
word_matched o.Abstract ls = named_side k.ModifierWord ls refl refl
word_matched o.And ls = named_side k.InfixWord ls refl refl
word_matched o.Catch ls = refl
word_matched o.Companion ls = named_side k.CompanionWord ls refl refl
word_matched o.Const ls = named_side k.ModifierWord ls refl refl
word_matched o.Constructor ls = named_side k.ConstructorWord ls refl refl
word_matched o.Finally ls = refl
word_matched o.Import ls = named_side k.ImportWord ls refl refl
word_matched o.Init ls = named_side k.InitWord ls refl refl
word_matched o.Java ls = named_side k.JavaWord ls refl refl
word_matched o.JvmField ls = named_side k.AnnotationWord ls refl refl
word_matched o.JvmStatic ls = named_side k.AnnotationWord ls refl refl
word_matched o.Open ls = named_side k.ModifierWord ls refl refl
word_matched o.Or ls = named_side k.InfixWord ls refl refl
word_matched o.Override ls = named_side k.ModifierWord ls refl refl
word_matched o.Private ls = either (set_ahead ls) k.PrivateSet (named k.PrivateWord ls) Side.Neither refl (named_side k.PrivateWord ls refl refl)
word_matched o.Run ls = either (stands is_curly ls) k.RunBlock (named k.Name ls) Side.Neither refl (named_side k.Name ls refl refl)
word_matched o.Set ls = named_side k.SetWord ls refl refl
word_matched o.Shl ls = named_side k.InfixWord ls refl refl
word_matched o.Shr ls = named_side k.InfixWord ls refl refl
word_matched o.SynchronizedBlock ls = either (stands is_round ls) k.SynchronizedBlock (named k.Name ls) Side.Neither refl (named_side k.Name ls refl refl)
word_matched o.SynchronizedMethod ls = named_side k.AnnotationWord ls refl refl
word_matched o.Until ls = named_side k.UntilWord ls refl refl
word_matched o.Ushr ls = named_side k.InfixWord ls refl refl
word_matched o.Volatile ls = named_side k.AnnotationWord ls refl refl
word_matched o.Xor ls = named_side k.InfixWord ls refl refl

kind_matched : (x : TokenKind) (ls : Letters) → kind_side (kind_of x ls) ≡ token_side x
kind_matched (q.Mark x) ls = mark_matched x ls
kind_matched (q.Keyword x) ls = keyword_matched x ls
kind_matched (q.Word x) ls = word_matched x ls
kind_matched (q.Name x) ls = named_side k.Name ls refl refl
kind_matched (q.Integer x) ls = refl
kind_matched (q.Long x) ls = refl
kind_matched (q.Character x) ls = refl
kind_matched (q.Text x) ls = refl
kind_matched q.End ls = refl

abbrev pub token_sides : List KToken → List Side
token_sides [] = []
token_sides (t ∷ ts) = token_side t.kind ∷ token_sides ts

pub letters_sides : (ts : List KToken) → sides (letters ts) ≡ token_sides ts
unfolding letters
letters_sides [] = refl
letters_sides (t ∷ ts) = ap (λ z. z ∷ sides (letters ts)) (kind_matched t.kind (letters ts)) ∙ ap (λ z. token_side t.kind ∷ z) (letters_sides ts)

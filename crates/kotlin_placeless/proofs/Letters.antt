-- The kinds of tokens don't depend on where they stand, nor on what a terminal takes of them.
use Rattle.std.proofs.Common.{◌≡◌, ℕ, zero, suc, Bool, true, false, List, [], ◌∷◌, map, drop, Some, None, refl, ap, ◌∙◌}
use Rattle.std.specs.Prelude.{if◌then◌else◌}
use Rattle.std.specs.Option.{option_map}
use Rattle.kotlin_tree.specs.declared.tokens.Gap.TheVariants as gap
use Rattle.kotlin_tree.specs.declared.types.KName.{KName}
use Rattle.kotlin_tree.specs.UpToPlaces.{made, unplaced_name}
use Rattle.kotlin_grammar.specs.declared.letters.Term.TheVariants as t
use Rattle.kotlin_tree.specs.declared.tokens.Mark.{Mark}
use Rattle.kotlin_tree.specs.declared.tokens.Mark.TheVariants as m
use Rattle.kotlin_tree.specs.declared.tokens.Keyword.{Keyword}
use Rattle.kotlin_tree.specs.declared.tokens.Keyword.TheVariants as h
use Rattle.kotlin_tree.specs.declared.tokens.Word.{Word}
use Rattle.kotlin_tree.specs.declared.tokens.Word.TheVariants as o
use Rattle.kotlin_tree.specs.declared.tokens.TokenKind.{TokenKind}
use Rattle.kotlin_tree.specs.declared.tokens.TokenKind.TheVariants as q
use Rattle.kotlin_tree.specs.declared.tokens.KToken.{KToken}
use Rattle.kotlin_grammar.specs.declared.letters.Kind.{Kind}
use Rattle.kotlin_grammar.specs.declared.letters.Kind.TheVariants as k
use Rattle.kotlin_grammar.specs.declared.letters.Term.{Term}
use Rattle.kotlin_grammar.specs.declared.ahead.Spot.{Spot}
use Rattle.kotlin_grammar.specs.declared.ahead.Step.{Step}
use Rattle.kotlin_grammar.specs.declared.ahead.Step.TheVariants as st
use Rattle.kotlin_grammar.specs.declared.ahead.Spot.TheVariants as at
use Rattle.kotlin_grammar.specs.declared.built.Built.{Built}
use Rattle.kotlin_grammar.specs.Parts.{with_name, with_token, with_place}
use Rattle.kotlin_grammar.specs.Table.{accepts, blank_after, is_end}
use Rattle.kotlin_grammar.specs.Ahead.{Letters, letters, letter_by, kind_of, named, label_of, mark_kind, keyword_kind, word_kind, curly_kind, stands, is_less, is_at, is_arrow, is_round, is_curly, is_plain, is_semicolon, set_ahead, opens, step, goes_on, arguments_follow, arguments_ahead, names_on, names_follow}
use Rattle.kotlin_grammar.specs.Taking.{kind, takes, relaxed, left, behind}
use Rattle.kotlin_grammar.specs.Meaning.{text_of, is_named, is_told, taken}
use Rattle.kotlin_placeless.specs.Placeless.{placeless_token, placeless_tokens, placeless_letter, placeless_built}

abbrev pub placeless_letters : Letters → Letters
placeless_letters ls = map placeless_letter ls

stands_same : (p : Kind → Bool) (ls : Letters) → stands p (placeless_letters ls) ≡ stands p ls
stands_same p [] = refl
stands_same p (l ∷ ls) = refl

set_same : (ls : Letters) → set_ahead (placeless_letters ls) ≡ set_ahead ls
set_same [] = refl
set_same (l ∷ ls) = refl

opens_same : (ls : Letters) → opens (placeless_letters ls) ≡ opens ls
opens_same [] = refl
opens_same (l ∷ []) = refl
opens_same (l ∷ i ∷ ls) = refl

goes_same : (s : Step) (n : ℕ) (more other : Spot → ℕ → Bool) (ended end : Bool) → ((p : Spot) (i : ℕ) → other p i ≡ more p i) → end ≡ ended → goes_on s n other end ≡ goes_on s n more ended
goes_same (st.To p) n more other ended end h is = h p n
goes_same st.Open n more other ended end h is = h at.Type (suc n)
goes_same st.Close zero more other ended end h is = is
goes_same st.Close (suc n) more other ended end h is = h at.Closed n
goes_same st.Out n more other ended end h is = refl

unless : (b x y : Bool) → x ≡ y → (if b then false else x) ≡ (if b then false else y)
unless b x y is = ap (λ z. if b then false else z) is

follow_same : (p : Spot) (n : ℕ) (ls : Letters) → arguments_follow p n (placeless_letters ls) ≡ arguments_follow p n ls
unfolding arguments_follow
follow_same p n [] = refl
follow_same p n (l ∷ ls) =
    unless (is_semicolon l.token.gap) _ _ (goes_same (step p l.kind) n (λ q i. arguments_follow q i ls) (λ q i. arguments_follow q i (placeless_letters ls)) (opens ls) (opens (placeless_letters ls)) (λ q i. follow_same q i ls) (opens_same ls))

names_by : (was : Bool) (c : Kind) (more other : Bool → Bool) → ((b : Bool) → other b ≡ more b) → names_on was c other ≡ names_on was c more
names_by true k.Comma more other h = h false
names_by true k.Arrow more other h = refl
names_by true _ more other h = refl
names_by false c more other h = ap (λ z. if accepts t.Name c then z else false) (h true)

names_same : (was : Bool) (ls : Letters) → names_follow was (placeless_letters ls) ≡ names_follow was ls
unfolding names_follow
names_same was [] = refl
names_same was (l ∷ ls) = unless (is_semicolon l.token.gap) _ _ (names_by was l.kind (λ b. names_follow b ls) (λ b. names_follow b (placeless_letters ls)) (λ b. names_same b ls))

drop_one : (ls : Letters) → drop 1 (placeless_letters ls) ≡ placeless_letters (drop 1 ls)
drop_one [] = refl
drop_one (l ∷ ls) = refl

ahead_same : (ls : Letters) → arguments_ahead (placeless_letters ls) ≡ arguments_ahead ls
ahead_same ls = ap (arguments_follow at.Type 0) (drop_one ls) ∙ follow_same at.Type 0 (drop 1 ls)

named_same : (c : Kind) (ls : Letters) → named c (placeless_letters ls) ≡ named c ls
unfolding named
named_same c ls =
    ap (λ z. if z then (if arguments_ahead (placeless_letters ls) then k.NameArguments else k.NameLess) else (if stands is_at (placeless_letters ls) then label_of c else c)) (stands_same is_less ls)
    ∙ ap (λ z. if stands is_less ls then (if z then k.NameArguments else k.NameLess) else (if stands is_at (placeless_letters ls) then label_of c else c)) (ahead_same ls)
    ∙ ap (λ z. if stands is_less ls then (if arguments_ahead ls then k.NameArguments else k.NameLess) else (if z then label_of c else c)) (stands_same is_at ls)

curly_same : (ls : Letters) → curly_kind (placeless_letters ls) ≡ curly_kind ls
curly_same ls =
    ap (λ z. if z then k.OpenParameters else (if names_follow false (placeless_letters ls) then k.OpenParameters else k.OpenCurly)) (stands_same is_arrow ls)
    ∙ ap (λ z. if stands is_arrow ls then k.OpenParameters else (if z then k.OpenParameters else k.OpenCurly)) (names_same false ls)

mark_same : (x : Mark) (ls : Letters) → mark_kind x (placeless_letters ls) ≡ mark_kind x ls
unfolding mark_kind
mark_same m.OpenCurly ls = curly_same ls
mark_same m.OpenRound ls = refl
mark_same m.CloseRound ls = refl
mark_same m.OpenSquare ls = refl
mark_same m.CloseSquare ls = refl
mark_same m.CloseCurly ls = refl
mark_same m.Comma ls = refl
mark_same m.Dot ls = refl
mark_same m.At ls = refl
mark_same m.Question ls = refl
mark_same m.Colon ls = refl
mark_same m.DoubleColon ls = refl
mark_same m.Assign ls = refl
mark_same m.Equal ls = refl
mark_same m.Identical ls = refl
mark_same m.Not ls = refl
mark_same m.NotNull ls = refl
mark_same m.NotEqual ls = refl
mark_same m.NotIdentical ls = refl
mark_same m.Plus ls = refl
mark_same m.PlusPlus ls = refl
mark_same m.Minus ls = refl
mark_same m.MinusMinus ls = refl
mark_same m.Arrow ls = refl
mark_same m.Star ls = refl
mark_same m.Slash ls = refl
mark_same m.Percent ls = refl
mark_same m.AndAnd ls = refl
mark_same m.OrOr ls = refl
mark_same m.Less ls = refl
mark_same m.LessEqual ls = refl
mark_same m.Greater ls = refl
mark_same m.GreaterEqual ls = refl

keyword_same : (x : Keyword) (ls : Letters) → keyword_kind x (placeless_letters ls) ≡ keyword_kind x ls
unfolding keyword_kind
keyword_same h.Else ls = ap (λ z. if z then k.ElseArrow else k.Else) (stands_same is_arrow ls)
keyword_same h.As ls = refl
keyword_same h.Break ls = refl
keyword_same h.Class ls = refl
keyword_same h.Continue ls = refl
keyword_same h.Do ls = refl
keyword_same h.False ls = refl
keyword_same h.For ls = refl
keyword_same h.Fun ls = refl
keyword_same h.If ls = refl
keyword_same h.In ls = refl
keyword_same h.Interface ls = refl
keyword_same h.Is ls = refl
keyword_same h.Null ls = refl
keyword_same h.Object ls = refl
keyword_same h.Package ls = refl
keyword_same h.Return ls = refl
keyword_same h.Super ls = refl
keyword_same h.This ls = refl
keyword_same h.Throw ls = refl
keyword_same h.True ls = refl
keyword_same h.Try ls = refl
keyword_same h.Typealias ls = refl
keyword_same h.Typeof ls = refl
keyword_same h.Val ls = refl
keyword_same h.Var ls = refl
keyword_same h.When ls = refl
keyword_same h.While ls = refl

word_same : (x : Word) (ls : Letters) → word_kind x (placeless_letters ls) ≡ word_kind x ls
unfolding word_kind
word_same o.Catch ls = refl
word_same o.Finally ls = refl
word_same o.Private ls = ap (λ z. if z then k.PrivateSet else named k.PrivateWord (placeless_letters ls)) (set_same ls) ∙ ap (λ z. if set_ahead ls then k.PrivateSet else z) (named_same k.PrivateWord ls)
word_same o.Run ls = ap (λ z. if z then k.RunBlock else named k.Name (placeless_letters ls)) (stands_same is_curly ls) ∙ ap (λ z. if stands is_curly ls then k.RunBlock else z) (named_same k.Name ls)
word_same o.SynchronizedBlock ls = ap (λ z. if z then k.SynchronizedBlock else named k.Name (placeless_letters ls)) (stands_same is_round ls) ∙ ap (λ z. if stands is_round ls then k.SynchronizedBlock else z) (named_same k.Name ls)
word_same o.Abstract ls = named_same k.ModifierWord ls
word_same o.And ls = named_same k.InfixWord ls
word_same o.Companion ls = named_same k.CompanionWord ls
word_same o.Const ls = named_same k.ModifierWord ls
word_same o.Constructor ls = named_same k.ConstructorWord ls
word_same o.Import ls = named_same k.ImportWord ls
word_same o.Init ls = named_same k.InitWord ls
word_same o.Java ls = named_same k.JavaWord ls
word_same o.JvmField ls = named_same k.AnnotationWord ls
word_same o.JvmStatic ls = named_same k.AnnotationWord ls
word_same o.Open ls = named_same k.ModifierWord ls
word_same o.Or ls = named_same k.InfixWord ls
word_same o.Override ls = named_same k.ModifierWord ls
word_same o.Set ls = named_same k.SetWord ls
word_same o.Shl ls = named_same k.InfixWord ls
word_same o.Shr ls = named_same k.InfixWord ls
word_same o.SynchronizedMethod ls = named_same k.AnnotationWord ls
word_same o.Until ls = named_same k.UntilWord ls
word_same o.Ushr ls = named_same k.InfixWord ls
word_same o.Volatile ls = named_same k.AnnotationWord ls
word_same o.Xor ls = named_same k.InfixWord ls

kind_same : (x : TokenKind) (ls : Letters) → kind_of x (placeless_letters ls) ≡ kind_of x ls
kind_same (q.Mark x) ls = mark_same x ls
kind_same (q.Keyword x) ls = keyword_same x ls
kind_same (q.Word x) ls = word_same x ls
kind_same (q.Name x) ls = named_same k.Name ls
kind_same (q.Integer x) ls = refl
kind_same (q.Long x) ls = refl
kind_same (q.Character x) ls = refl
kind_same (q.Text x) ls = refl
kind_same q.End ls = refl

pub letters_same : (ts : List KToken) → letters (placeless_tokens ts) ≡ placeless_letters (letters ts)
unfolding letters
letters_same [] = refl
letters_same (t ∷ ts) =
    ap (λ z. letter_by (kind_of t.kind z) (placeless_token t) ∷ z) (letters_same ts)
    ∙ ap (λ c. letter_by c (placeless_token t) ∷ placeless_letters (letters ts)) (kind_same t.kind (letters ts))

-- ---- what a terminal takes

taken_by : (a b : Bool) (n : KName) (t : KToken) (c : Built)
    → (if a then with_name (unplaced_name n) (placeless_built c) else (if b then with_token (placeless_token t) (placeless_built c) else with_place made (placeless_built c)))
    ≡ placeless_built (if a then with_name n c else (if b then with_token t c else with_place t.position c))
unfolding with_name with_token with_place placeless_built
taken_by true b n t c = refl
taken_by false true n t c = refl
taken_by false false n t c = refl

taken_same : (c : Term) (t : KToken) (b : Built) → taken c (placeless_token t) (placeless_built b) ≡ placeless_built (taken c t b)
unfolding taken
taken_same c t b = taken_by (is_named c) (is_told c) (record { name = text_of t.kind; at = t.position }) t b

relaxed_same : (ls : Letters) → relaxed (placeless_letters ls) ≡ placeless_letters (relaxed ls)
relaxed_same [] = refl
relaxed_same (l ∷ ls) = refl

left_by : (b : Bool) (ls : Letters) → (if b then relaxed (placeless_letters ls) else placeless_letters ls) ≡ placeless_letters (if b then relaxed ls else ls)
left_by true ls = relaxed_same ls
left_by false ls = refl

-- what is built, and what is left
abbrev pub placeless_taken : Built × Letters → Built × Letters
placeless_taken x = (placeless_built x.0, placeless_letters x.1)

takes_by : (a e p : Bool) (b c : Built) (u v w z : Letters) (d : Built) → u ≡ placeless_letters v → w ≡ placeless_letters z → c ≡ placeless_built d
    → (if a then (if e then (if p then None else Some (placeless_built b, u)) else Some (c, w)) else None) ≡ option_map placeless_taken (if a then (if e then (if p then None else Some (b, v)) else Some (d, z)) else None)
takes_by true true true b c u v w z d x y i = refl
takes_by true true false b c u v w z d x y i = ap (λ n. Some (placeless_built b, n)) x
takes_by true false p b c u v w z d x y i = ap (λ n. Some (n, w)) i ∙ ap (λ n. Some (placeless_built d, n)) y
takes_by false e p b c u v w z d x y i = refl

pub takes_same : (c : Term) (b : Built) (ls : Letters) → takes taken c (placeless_built b) (placeless_letters ls) ≡ option_map placeless_taken (takes taken c b ls)
unfolding takes
takes_same c b [] = refl
takes_same c b (l ∷ ls) =
    takes_by (accepts c (kind (l ∷ ls))) (is_end c) (is_plain l.token.gap) b (taken c (placeless_token l.token) (placeless_built b))
    (behind gap.Plain (placeless_letter l) ∷ placeless_letters ls) (behind gap.Plain l ∷ ls) (left c (placeless_letters ls)) (left c ls) (taken c l.token b)
    refl (left_by (blank_after c) ls) (taken_same c l.token b)

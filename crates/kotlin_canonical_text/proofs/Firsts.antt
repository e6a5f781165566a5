-- The first tokens of parts of a text, and what is seen of them from further left.
use Rattle.std.proofs.Common.{◌≡◌, ℕ, Bool, true, false, List, ◌∷◌, ◌++◌, Some, None, refl, ap, sym, ◌∙◌, append_assoc}
use Rattle.std.specs.Prelude.{if◌then◌else◌, ◌&&◌}
use Rattle.kotlin_tree.specs.declared.tokens.Gap.{Gap}
use Rattle.kotlin_tree.specs.declared.tokens.Gap.TheVariants as gap
use Rattle.kotlin_tree.specs.declared.tokens.Mark.{Mark}
use Rattle.kotlin_tree.specs.declared.tokens.Word.{Word}
use Rattle.kotlin_tree.specs.declared.tokens.Keyword.{Keyword}
use Rattle.kotlin_tree.specs.declared.expressions.KLiteral.{KLiteral}
use Rattle.kotlin_tree.specs.declared.tokens.Word.TheVariants as o
use Rattle.kotlin_tree.specs.declared.tokens.TokenKind.{TokenKind}
use Rattle.kotlin_tree.specs.declared.tokens.TokenKind.TheVariants as q
use Rattle.kotlin_tree.specs.declared.tokens.KToken.{KToken}
use Rattle.kotlin_layout.specs.declared.glyphs.Glyph.TheVariants as g
use Rattle.kotlin_layout.specs.Roles.{Role, Roles}
use Rattle.kotlin_grammar.specs.declared.letters.Kind.{Kind}
use Rattle.kotlin_grammar.specs.declared.letters.Kind.TheVariants as k
use Rattle.kotlin_grammar.specs.declared.letters.Term.TheVariants as t
use Rattle.kotlin_grammar.specs.declared.built.Built.{Built}
use Rattle.kotlin_grammar.specs.declared.ahead.Spot.{Spot}
use Rattle.kotlin_grammar.specs.declared.ahead.Spot.TheVariants as at
use Rattle.kotlin_grammar.specs.declared.ahead.Step.TheVariants as st
use Rattle.kotlin_grammar.specs.Table.{accepts}
use Rattle.kotlin_grammar.specs.Ahead.{Letters, letters, letter, kind_of, named, word_kind as kind_of_word, mark_kind, keyword_kind, stands, is_less, is_at, is_arrow, is_curly, is_plain, set_ahead, arguments_ahead, gap_before, blank_before, without_line, with_gap, label_of, arguments_follow, names_follow, goes_on, opens, is_semicolon}
use Rattle.kotlin_grammar.specs.Taking.{takes, relaxed, broken}
use Rattle.kotlin_grammar.specs.Meaning.{taken}
use Rattle.kotlin_canonical_text.specs.Tokens.{token, tokens, name_token, literal_token}
use Rattle.kotlin_canonical_text.proofs.Names.{L, is_ident, name_ident, gap_plain}

-- the kinds with which a type, an expression or a statement begins
unfoldable pub starts : Kind → Bool
starts k.Name = true
starts k.NameArguments = true
starts k.NameLess = true
starts k.Label = true
starts k.LabelModifier = true
starts k.LabelAnnotation = true
starts k.InfixWord = true
starts k.UntilWord = true
starts k.CompanionWord = true
starts k.InitWord = true
starts k.ConstructorWord = true
starts k.SetWord = true
starts k.JavaWord = true
starts k.ImportWord = true
starts k.PrivateWord = true
starts k.PrivateSet = true
starts k.ModifierWord = true
starts k.AnnotationWord = true
starts k.RunBlock = true
starts k.SynchronizedBlock = true
starts k.Literal = true
starts k.Break = true
starts k.Continue = true
starts k.Do = true
starts k.For = true
starts k.If = true
starts k.Return = true
starts k.SuperWord = true
starts k.This = true
starts k.Throw = true
starts k.Try = true
starts k.Val = true
starts k.Var = true
starts k.When = true
starts k.While = true
starts k.OpenRound = true
starts k.Not = true
starts k.Sign = true
starts k.Step = true
starts _ = false

-- What stands first, with this gap before it.
pub record First (xs r : Roles) : Type 0 where
  pub kind : Kind
  pub front : KToken
  pub more : Letters
  pub is : (h : Gap) → L h (xs ++ r) ≡ record { kind = kind; token = with_gap h front } ∷ more
  pub ok : starts kind ≡ true

abbrev pub Begins : Roles → Type 0
Begins xs = (r : Roles) → First xs r

and_no : (h : Gap) (b : Bool) → b ≡ false → (is_plain h && b) ≡ false
and_no gap.Plain b is = is
and_no gap.Line b is = refl
and_no gap.Semicolon b is = refl

starts_less : (c : Kind) → starts c ≡ true → is_less c ≡ false
unfolding starts
starts_less k.Less h = absurd (cc h)
starts_less _ h = refl

pub first_less : (xs r : Roles) (h : Gap) → First xs r → stands is_less (L h (xs ++ r)) ≡ false
first_less xs r h f = ap (stands is_less) (f.is h) ∙ and_no h (is_less f.kind) (starts_less f.kind f.ok)

starts_at : (c : Kind) → starts c ≡ true → is_at c ≡ false
unfolding starts
starts_at k.At h = absurd (cc h)
starts_at _ h = refl

pub first_at : (xs r : Roles) (h : Gap) → First xs r → stands is_at (L h (xs ++ r)) ≡ false
first_at xs r h f = ap (stands is_at) (f.is h) ∙ and_no h (is_at f.kind) (starts_at f.kind f.ok)

starts_arrow : (c : Kind) → starts c ≡ true → is_arrow c ≡ false
unfolding starts
starts_arrow k.Arrow h = absurd (cc h)
starts_arrow _ h = refl

pub first_arrow : (xs r : Roles) (h : Gap) → First xs r → stands is_arrow (L h (xs ++ r)) ≡ false
first_arrow xs r h f = ap (stands is_arrow) (f.is h) ∙ and_no h (is_arrow f.kind) (starts_arrow f.kind f.ok)

starts_curly : (c : Kind) → starts c ≡ true → is_curly c ≡ false
unfolding starts
starts_curly k.OpenCurly h = absurd (cc h)
starts_curly k.OpenParameters h = absurd (cc h)
starts_curly _ h = refl

pub first_curly : (xs r : Roles) (h : Gap) → First xs r → stands is_curly (L h (xs ++ r)) ≡ false
first_curly xs r h f = ap (stands is_curly) (f.is h) ∙ and_no h (is_curly f.kind) (starts_curly f.kind f.ok)

blank_starts : (c : Kind) → starts c ≡ true → blank_before c ≡ false
unfolding starts
blank_starts k.Dot h = absurd (cc h)
blank_starts k.Colon h = absurd (cc h)
blank_starts k.AndAnd h = absurd (cc h)
blank_starts k.OrOr h = absurd (cc h)
blank_starts k.OpenCurly h = absurd (cc h)
blank_starts k.OpenParameters h = absurd (cc h)
blank_starts k.CloseCurly h = absurd (cc h)
blank_starts k.Catch h = absurd (cc h)
blank_starts k.FinallyWord h = absurd (cc h)
blank_starts k.Else h = absurd (cc h)
blank_starts _ h = refl

gap_starts : (c : Kind) (h : Gap) → starts c ≡ true → gap_before c h ≡ h
gap_starts c h is = ap (λ z. if z then without_line h else h) (blank_starts c is)

-- a line end before it is a blank where line ends are
pub relaxed_plain : (xs r : Roles) → First xs r → relaxed (L gap.Plain (xs ++ r)) ≡ L gap.Plain (xs ++ r)
relaxed_plain xs r f = ap relaxed (f.is gap.Plain) ∙ sym (f.is gap.Plain)

pub relaxed_line : (xs r : Roles) → First xs r → relaxed (L gap.Line (xs ++ r)) ≡ L gap.Plain (xs ++ r)
relaxed_line xs r f = ap relaxed (f.is gap.Line) ∙ sym (f.is gap.Plain)

ends_by : (c : Kind) → accepts t.Ends (broken c) ≡ true
unfolding accepts
ends_by k.While = refl
ends_by k.PrivateSet = refl
ends_by _ = refl

-- an end stands before it
pub takes_line : (xs r : Roles) (b : Built) → First xs r → takes taken t.Ends b (L gap.Line (xs ++ r)) ≡ Some (b, L gap.Plain (xs ++ r))
unfolding takes
takes_line xs r b f =
    ap (takes taken t.Ends b) (f.is gap.Line)
    ∙ ap (λ z. if z then Some (b, record { kind = f.kind; token = with_gap gap.Plain f.front } ∷ f.more) else None) (ends_by f.kind)
    ∙ ap (λ z. Some (b, z)) (sym (f.is gap.Plain))

pub takes_semicolon : (xs r : Roles) (b : Built) → First xs r → takes taken t.Ends b (L gap.Semicolon (xs ++ r)) ≡ Some (b, L gap.Plain (xs ++ r))
unfolding takes accepts
takes_semicolon xs r b f = ap (takes taken t.Ends b) (f.is gap.Semicolon) ∙ ap (λ z. Some (b, z)) (sym (f.is gap.Plain))

pub begins_more : (xs ys : Roles) → Begins xs → Begins (xs ++ ys)
begins_more xs ys h r = let f = h (ys ++ r) in record { kind = f.kind; front = f.front; more = f.more; is = λ h. ap (L h) (append_assoc xs ys r) ∙ f.is h; ok = f.ok }

-- ---- a token that stands first

first_token : (x : TokenKind) (r : Roles) (ls : Letters) (xs : Roles) → ((h : Gap) → L h (xs ++ r) ≡ letter (token x h) ls ∷ ls) → starts (kind_of x ls) ≡ true → First xs r
first_token x r ls xs is ok = record {
  kind = kind_of x ls;
  front = token x gap.Plain;
  more = ls;
  is = λ h. is h ∙ ap (λ z. record { kind = kind_of x ls; token = token x z } ∷ ls) (gap_starts (kind_of x ls) h ok);
  ok = ok;
}

-- a mark
pub begins_mark : (x : Mark) (xs : Roles) → ((r : Roles) → starts (mark_kind x (L gap.Plain (xs ++ r))) ≡ true) → Begins (Role.Fixed (g.Mark x) ∷ xs)
unfolding letters tokens
begins_mark x xs ok r = first_token (q.Mark x) r (L gap.Plain (xs ++ r)) (Role.Fixed (g.Mark x) ∷ xs) (λ h. refl) (ok r)

pub begins_keyword : (x : Keyword) (xs : Roles) → ((r : Roles) → starts (keyword_kind x (L gap.Plain (xs ++ r))) ≡ true) → Begins (Role.Fixed (g.Keyword x) ∷ xs)
unfolding letters tokens
begins_keyword x xs ok r = first_token (q.Keyword x) r (L gap.Plain (xs ++ r)) (Role.Fixed (g.Keyword x) ∷ xs) (λ h. refl) (ok r)

pub begins_word : (x : Word) (xs : Roles) → ((r : Roles) → starts (kind_of_word x (L gap.Plain (xs ++ r))) ≡ true) → Begins (Role.Fixed (g.Word x) ∷ xs)
unfolding letters tokens
begins_word x xs ok r = first_token (q.Word x) r (L gap.Plain (xs ++ r)) (Role.Fixed (g.Word x) ∷ xs) (λ h. refl) (ok r)

pub begins_literal : (x : KLiteral) (xs : Roles) → ((r : Roles) → starts (kind_of (literal_token x) (L gap.Plain (xs ++ r))) ≡ true) → Begins (Role.Literal x ∷ xs)
unfolding letters tokens
begins_literal x xs ok r = first_token (literal_token x) r (L gap.Plain (xs ++ r)) (Role.Literal x ∷ xs) (λ h. refl) (ok r)

named_starts : (x z v : Bool) (c : Kind) → starts c ≡ true → starts (label_of c) ≡ true → starts (if x then (if z then k.NameArguments else k.NameLess) else (if v then label_of c else c)) ≡ true
unfolding starts
named_starts true true v c h i = refl
named_starts true false v c h i = refl
named_starts false z true c h i = i
named_starts false z false c h i = h

named_begins : (c : Kind) (ls : Letters) → starts c ≡ true → starts (label_of c) ≡ true → starts (named c ls) ≡ true
unfolding named
named_begins c ls h i = named_starts (stands is_less ls) (arguments_ahead ls) (stands is_at ls) c h i

either_starts : (b : Bool) (c d : Kind) → starts c ≡ true → starts d ≡ true → starts (if b then c else d) ≡ true
either_starts true c d h i = h
either_starts false c d h i = i

pub word_starts : (w : Word) (ls : Letters) → is_ident (q.Word w) ≡ true → starts (kind_of_word w ls) ≡ true
unfolding starts kind_of_word
word_starts o.Abstract ls is = named_begins k.ModifierWord ls refl refl
word_starts o.And ls is = named_begins k.InfixWord ls refl refl
word_starts o.Catch ls is = absurd (cc is)
word_starts o.Companion ls is = named_begins k.CompanionWord ls refl refl
word_starts o.Const ls is = named_begins k.ModifierWord ls refl refl
word_starts o.Constructor ls is = named_begins k.ConstructorWord ls refl refl
word_starts o.Finally ls is = absurd (cc is)
word_starts o.Import ls is = named_begins k.ImportWord ls refl refl
word_starts o.Init ls is = named_begins k.InitWord ls refl refl
word_starts o.Java ls is = named_begins k.JavaWord ls refl refl
word_starts o.JvmField ls is = named_begins k.AnnotationWord ls refl refl
word_starts o.JvmStatic ls is = named_begins k.AnnotationWord ls refl refl
word_starts o.Open ls is = named_begins k.ModifierWord ls refl refl
word_starts o.Or ls is = named_begins k.InfixWord ls refl refl
word_starts o.Override ls is = named_begins k.ModifierWord ls refl refl
word_starts o.Private ls is = either_starts (set_ahead ls) k.PrivateSet (named k.PrivateWord ls) refl (named_begins k.PrivateWord ls refl refl)
word_starts o.Run ls is = either_starts (stands is_curly ls) k.RunBlock (named k.Name ls) refl (named_begins k.Name ls refl refl)
word_starts o.Set ls is = named_begins k.SetWord ls refl refl
word_starts o.Shl ls is = named_begins k.InfixWord ls refl refl
word_starts o.Shr ls is = named_begins k.InfixWord ls refl refl
word_starts o.SynchronizedBlock ls is = absurd (cc is)
word_starts o.SynchronizedMethod ls is = named_begins k.AnnotationWord ls refl refl
word_starts o.Until ls is = named_begins k.UntilWord ls refl refl
word_starts o.Ushr ls is = named_begins k.InfixWord ls refl refl
word_starts o.Volatile ls is = named_begins k.AnnotationWord ls refl refl
word_starts o.Xor ls is = named_begins k.InfixWord ls refl refl

ident_starts : (x : TokenKind) (ls : Letters) → is_ident x ≡ true → starts (kind_of x ls) ≡ true
unfolding starts
ident_starts (q.Name n) ls is = named_begins k.Name ls refl refl
ident_starts (q.Word w) ls is = word_starts w ls is
ident_starts _ ls is = absurd (cc is)

pub begins_name : (n : List ℕ) (xs : Roles) → Begins (Role.Name n ∷ xs)
unfolding letters tokens
begins_name n xs r = first_token (name_token n) r (L gap.Plain (xs ++ r)) (Role.Name n ∷ xs) (λ h. refl) (ident_starts (name_token n) (L gap.Plain (xs ++ r)) (name_ident n))

-- ---- looking along names

-- No arguments of a type end there, nor go on.
abbrev pub Stops : Letters → Type 0
Stops ls = (n : ℕ) → arguments_follow at.Name n ls ≡ false

-- Looking for type arguments fails in these, where it fails behind them.
abbrev pub Scans : Roles → Type 0
Scans xs = (n : ℕ) (r : Roles) → Stops (L gap.Plain r) → arguments_follow at.Type n (L gap.Plain (xs ++ r)) ≡ false

-- Looking for the names of a lambda fails in these, where it fails behind a name before what follows.
abbrev pub Unnamed : Roles → Type 0
Unnamed xs = (r : Roles) → names_follow true (L gap.Plain r) ≡ false → names_follow false (L gap.Plain (xs ++ r)) ≡ false

semicolon_by : (b : Bool) (h : Gap) → h ≡ gap.Plain → b ≡ false → (if is_semicolon h then false else b) ≡ false
semicolon_by b h is fails = ap (λ z. if is_semicolon z then false else b) is ∙ fails

goes_by : (b : Bool) (n : ℕ) (more : Spot → ℕ → Bool) (ended : Bool) → more at.Name n ≡ false → goes_on (if b then st.To at.Name else st.Out) n more ended ≡ false
goes_by true n more ended h = h
goes_by false n more ended h = refl

pub scan_name : (n : ℕ) (x : List ℕ) (r : Roles) → Stops (L gap.Plain r) → arguments_follow at.Type n (L gap.Plain (Role.Name x ∷ r)) ≡ false
unfolding letters tokens arguments_follow
scan_name n x r stops =
    let ls = L gap.Plain r in
    let c = kind_of (name_token x) ls in
    semicolon_by (goes_on (if accepts t.AnyName c then st.To at.Name else st.Out) n (λ p i. arguments_follow p i ls) (opens ls)) (gap_before c gap.Plain) (gap_plain c)
    (goes_by (accepts t.AnyName c) n (λ p i. arguments_follow p i ls) (opens ls) (stops n))

names_by : (b more : Bool) → more ≡ false → (if b then more else false) ≡ false
names_by true more h = h
names_by false more h = refl

pub unnamed_name : (x : List ℕ) (r : Roles) → names_follow true (L gap.Plain r) ≡ false → names_follow false (L gap.Plain (Role.Name x ∷ r)) ≡ false
unfolding letters tokens names_follow
unnamed_name x r h =
    let ls = L gap.Plain r in
    let c = kind_of (name_token x) ls in
    semicolon_by (if accepts t.Name c then names_follow true ls else false) (gap_before c gap.Plain) (gap_plain c) (names_by (accepts t.Name c) (names_follow true ls) h)

-- a name of a type is passed
go_by : (b : Bool) (n : ℕ) (more : Spot → ℕ → Bool) (ended : Bool) → b ≡ true → goes_on (if b then st.To at.Name else st.Out) n more ended ≡ more at.Name n
go_by true n more ended h = refl
go_by false n more ended h = absurd (cc h)

pub any_type : (c : Kind) → accepts t.TypeName c ≡ true → accepts t.AnyName c ≡ true
unfolding accepts
any_type k.Name h = refl
any_type k.InfixWord h = refl
any_type k.UntilWord h = refl
any_type k.CompanionWord h = refl
any_type k.InitWord h = refl
any_type k.ConstructorWord h = refl
any_type k.SetWord h = refl
any_type k.JavaWord h = refl
any_type k.ImportWord h = refl
any_type k.PrivateWord h = refl
any_type k.PrivateSet h = refl
any_type k.ModifierWord h = refl
any_type k.AnnotationWord h = refl
any_type _ h = absurd (cc h)

pub pass_name : (n : ℕ) (x : List ℕ) (r : Roles) → accepts t.AnyName (kind_of (name_token x) (L gap.Plain r)) ≡ true → arguments_follow at.Type n (L gap.Plain (Role.Name x ∷ r)) ≡ arguments_follow at.Name n (L gap.Plain r)
unfolding letters tokens arguments_follow
pass_name n x r is =
    let ls = L gap.Plain r in
    let c = kind_of (name_token x) ls in
    ap (λ z. if is_semicolon z then false else goes_on (if accepts t.AnyName c then st.To at.Name else st.Out) n (λ p i. arguments_follow p i ls) (opens ls)) (gap_plain c)
    ∙ go_by (accepts t.AnyName c) n (λ p i. arguments_follow p i ls) (opens ls) is

-- Names: their tokens, and which terminals take them.
use Rattle.std.proofs.Common.{◌≡◌, ℕ, Bool, true, false, List, [], ◌∷◌, Option, Some, None, refl, ap, sym, subst, ◌∙◌}
use Rattle.std.specs.Prelude.{if◌then◌else◌, cond, find, bytes_eq, codes, ◌++◌}
use Rattle.std.specs.Option.{option_map}
use Rattle.grammar.proofs.LawsToCite.{some_same}
use Rattle.std.proofs.lemmas.Slice.Eq.{bytes_eq-Decides}
use Rattle.kotlin_tree.specs.Spellings.{word_text}
use Rattle.kotlin_tree.specs.declared.tokens.Gap.{Gap}
use Rattle.kotlin_tree.specs.declared.tokens.Gap.TheVariants as gap
use Rattle.kotlin_tree.specs.declared.tokens.Mark.TheVariants as m
use Rattle.kotlin_tree.specs.declared.tokens.Word.{Word}
use Rattle.kotlin_tree.specs.declared.tokens.Word.TheVariants as o
use Rattle.kotlin_tree.specs.declared.tokens.TokenKind.{TokenKind}
use Rattle.kotlin_tree.specs.declared.tokens.TokenKind.TheVariants as q
use Rattle.kotlin_tree.specs.declared.types.KName.{KName}
use Rattle.kotlin_tree.specs.UpToPlaces.{made}
use Rattle.kotlin_keywords.specs.declared.words.WordKind.{WordKind}
use Rattle.kotlin_keywords.specs.declared.words.WordKind.TheVariants as row
use Rattle.kotlin_keywords.specs.Words.{Entry, keywords, soft_words, beside, or_else, word_kind}
use Rattle.kotlin_words.specs.Words.{hard_keywords}
use Rattle.kotlin_layout.specs.declared.glyphs.Glyph.TheVariants as g
use Rattle.kotlin_layout.specs.Roles.{Role, Roles, fixed, name}
use Rattle.kotlin_layout.specs.Shown.{target_name}
use Rattle.kotlin_layout.specs.Names.{is_quoted}
use Rattle.kotlin_grammar.specs.declared.letters.Kind.{Kind}
use Rattle.kotlin_grammar.specs.declared.letters.Kind.TheVariants as k
use Rattle.kotlin_grammar.specs.declared.letters.Term.{Term}
use Rattle.kotlin_grammar.specs.declared.letters.Term.TheVariants as t
use Rattle.kotlin_grammar.specs.declared.built.Built.{Built}
use Rattle.kotlin_grammar.specs.Table.{accepts, is_end, blank_after}
use Rattle.kotlin_grammar.specs.Ahead.{Letters, letters, letter, kind_of, named, word_kind as kind_of_word, mark_kind, stands, is_less, is_at, is_curly, is_round, set_ahead, arguments_ahead, gap_before, blank_before, label_of}
use Rattle.kotlin_grammar.specs.Taking.{takes, relaxed}
use Rattle.kotlin_grammar.specs.Parts.{with_name}
use Rattle.kotlin_grammar.specs.Meaning.{taken, text_of}
use Rattle.kotlin_canonical_text.specs.Tokens.{token, tokens, name_token, word_by}

-- the letters of a text, where this stands before it
abbrev pub L : Gap → Roles → Letters
L before xs = letters (tokens before xs)

abbrev pub name_made : List ℕ → KName
name_made n = record { name = n; at = made }

-- ---- the token of a name has its text, and no word of a block

abbrev row_fits : WordKind → List ℕ → Bool
row_fits (row.Word w) text = bytes_eq (word_text w) text
row_fits (row.Keyword x) text = true

abbrev AllFit : List Entry → Type 0
AllFit [] = Unit {0}
AllFit (x ∷ xs) = (row_fits x.1 x.0 ≡ true) × AllFit xs

same_bytes : (xs ys : List ℕ) → bytes_eq xs ys ≡ true → xs ≡ ys
same_bytes xs ys is = (bytes_eq-Decides xs ys).0 is

found_by : (b : Bool) (x : Entry) (xs : List Entry) (n : List ℕ) (w : Word) → bytes_eq x.0 n ≡ b → row_fits x.1 x.0 ≡ true → (beside n xs ≡ Some (row.Word w) → word_text w ≡ n)
    → option_map (λ (row : Entry). row.1) (cond b (Some x) (find (λ (row : Entry). bytes_eq row.0 n) xs)) ≡ Some (row.Word w) → word_text w ≡ n
found_by true x xs n w is fit more h = same_bytes (word_text w) x.0 (subst (λ z. row_fits z x.0 ≡ true) (some_same h) fit) ∙ same_bytes x.0 n is
found_by false x xs n w is fit more h = more h

found_text : (xs : List Entry) (n : List ℕ) (w : Word) → AllFit xs → beside n xs ≡ Some (row.Word w) → word_text w ≡ n
found_text [] n w fit is = absurd (cc is)
found_text (x ∷ xs) n w fit is = found_by (bytes_eq x.0 n) x xs n w refl fit.0 (found_text xs n w fit.1) is

keywords_fit : AllFit keywords
unfolding keywords
keywords_fit = (refl, (refl, (refl, (refl, (refl, (refl, (refl, (refl, (refl, (refl, (refl, (refl, (refl, (refl, (refl, (refl, (refl, (refl, (refl, (refl, (refl, (refl, (refl, (refl, (refl, (refl, (refl, (refl, tt))))))))))))))))))))))))))))

words_fit : AllFit soft_words
unfolding soft_words
words_fit = (refl, (refl, (refl, (refl, (refl, (refl, (refl, (refl, (refl, (refl, (refl, (refl, (refl, (refl, (refl, (refl, (refl, (refl, (refl, (refl, (refl, (refl, (refl, (refl, (refl, (refl, tt))))))))))))))))))))))))))

either : (a b : Option WordKind) (w : Word) (n : List ℕ) → (a ≡ Some (row.Word w) → word_text w ≡ n) → (b ≡ Some (row.Word w) → word_text w ≡ n) → or_else a b ≡ Some (row.Word w) → word_text w ≡ n
either None b w n h i e = i e
either (Some x) b w n h i e = h e

known_text : (n : List ℕ) (w : Word) → word_kind n ≡ Some (row.Word w) → word_text w ≡ n
known_text n w e = either (beside n keywords) (beside n soft_words) w n (found_text keywords n w keywords_fit) (found_text soft_words n w words_fit) e

text_by : (b : Bool) (a : Option WordKind) (n : List ℕ) → ((w : Word) → a ≡ Some (row.Word w) → word_text w ≡ n) → text_of (if b then q.Name n else word_by n a) ≡ n
text_by true a n h = refl
text_by false None n h = refl
text_by false (Some (row.Word w)) n h = h w refl
text_by false (Some (row.Keyword x)) n h = refl

pub name_text : (n : List ℕ) → text_of (name_token n) ≡ n
unfolding name_token
name_text n = text_by (is_quoted n) (word_kind n) n (known_text n)

-- a name, or a word that is one
abbrev pub is_ident : TokenKind → Bool
is_ident (q.Name x) = true
is_ident (q.Word o.Catch) = false
is_ident (q.Word o.Finally) = false
is_ident (q.Word o.SynchronizedBlock) = false
is_ident (q.Word _) = true
is_ident _ = false

abbrev pub is_run : TokenKind → Bool
is_run (q.Word o.Run) = true
is_run _ = false

word_ident : (w : Word) (n : List ℕ) → is_quoted n ≡ false → word_text w ≡ n → is_ident (q.Word w) ≡ true
unfolding hard_keywords
word_ident o.Catch n is e = let h : true ≡ false = subst (λ z. is_quoted z ≡ false) (sym e) is in absurd (cc h)
word_ident o.Finally n is e = let h : true ≡ false = subst (λ z. is_quoted z ≡ false) (sym e) is in absurd (cc h)
word_ident o.SynchronizedBlock n is e = let h : true ≡ false = subst (λ z. is_quoted z ≡ false) (sym e) is in absurd (cc h)
word_ident _ n is e = refl

ident_by : (b : Bool) (a : Option WordKind) (n : List ℕ) → is_quoted n ≡ b → ((w : Word) → a ≡ Some (row.Word w) → word_text w ≡ n) → is_ident (if b then q.Name n else word_by n a) ≡ true
ident_by true a n is h = refl
ident_by false None n is h = refl
ident_by false (Some (row.Word w)) n is h = word_ident w n is (h w refl)
ident_by false (Some (row.Keyword x)) n is h = refl

pub name_ident : (n : List ℕ) → is_ident (name_token n) ≡ true
unfolding name_token
name_ident n = ident_by (is_quoted n) (word_kind n) n refl (known_text n)

run_text : (x : TokenKind) → is_run x ≡ true → text_of x ≡ codes "run"
run_text (q.Word o.Run) is = refl
run_text _ is = absurd (cc is)

-- a name that isn't `run` is no word `run`
pub not_run : (n : List ℕ) → bytes_eq n (codes "run") ≡ false → is_run (name_token n) ≡ true → ⊥
not_run n other is =
    let same : n ≡ codes "run" = sym (name_text n) ∙ run_text (name_token n) is in
    let h : true ≡ false = subst (λ z. bytes_eq z (codes "run") ≡ false) same other in
    absurd (cc h)

-- ---- the kind of a name

-- Behind a name stand neither `<` with type arguments nor `@`.
abbrev pub Free : Letters → Type 0
Free ls = (if stands is_less ls then arguments_ahead ls else stands is_at ls) ≡ false

-- It stands before no `{`, where it is `run`.
abbrev pub Calm : TokenKind → Letters → Type 0
Calm x ls = is_run x ≡ true → stands is_curly ls ≡ false

pub gap_plain : (c : Kind) → gap_before c gap.Plain ≡ gap.Plain
gap_plain c = stays (blank_before c)
  where
    stays : (b : Bool) → (if b then gap.Plain else gap.Plain) ≡ gap.Plain
    stays true = refl
    stays false = refl

pub named_plain : (c : Kind) (ls : Letters) → stands is_less ls ≡ false → stands is_at ls ≡ false → named c ls ≡ c
unfolding named
named_plain c ls less at = ap (λ z. if z then (if arguments_ahead ls then k.NameArguments else k.NameLess) else (if stands is_at ls then label_of c else c)) less ∙ ap (λ z. if z then label_of c else c) at

free_by : (x z v : Bool) (c : Kind) → (if x then z else v) ≡ false → accepts t.Name c ≡ true → accepts t.Name (if x then (if z then k.NameArguments else k.NameLess) else (if v then label_of c else c)) ≡ true
unfolding accepts
free_by true true v c free is = absurd (cc free)
free_by true false v c free is = refl
free_by false z true c free is = absurd (cc free)
free_by false z false c free is = is

named_free : (c : Kind) (ls : Letters) → Free ls → accepts t.Name c ≡ true → accepts t.Name (named c ls) ≡ true
unfolding named
named_free c ls free is = free_by (stands is_less ls) (arguments_ahead ls) (stands is_at ls) c free is

any_by : (x z v : Bool) (c : Kind) → v ≡ false → accepts t.AnyName c ≡ true → accepts t.AnyName (if x then (if z then k.NameArguments else k.NameLess) else (if v then label_of c else c)) ≡ true
unfolding accepts
any_by true true v c at is = refl
any_by true false v c at is = refl
any_by false z true c at is = absurd (cc at)
any_by false z false c at is = is

named_any : (c : Kind) (ls : Letters) → stands is_at ls ≡ false → accepts t.AnyName c ≡ true → accepts t.AnyName (named c ls) ≡ true
unfolding named
named_any c ls at is = any_by (stands is_less ls) (arguments_ahead ls) (stands is_at ls) c at is

ident_type_private : (b : Bool) (ls : Letters) → stands is_less ls ≡ false → stands is_at ls ≡ false → accepts t.TypeName (if b then k.PrivateSet else named k.PrivateWord ls) ≡ true
unfolding accepts
ident_type_private true ls less at = refl
ident_type_private false ls less at = ap (accepts t.TypeName) (named_plain k.PrivateWord ls less at)

ident_type_run : (b : Bool) (ls : Letters) → stands is_less ls ≡ false → stands is_at ls ≡ false → b ≡ false → accepts t.TypeName (if b then k.RunBlock else named k.Name ls) ≡ true
unfolding accepts
ident_type_run true ls less at h = absurd (cc h)
ident_type_run false ls less at h = ap (accepts t.TypeName) (named_plain k.Name ls less at)

ident_type_word : (w : Word) (ls : Letters) → stands is_less ls ≡ false → stands is_at ls ≡ false → is_ident (q.Word w) ≡ true → Calm (q.Word w) ls → accepts t.TypeName (kind_of_word w ls) ≡ true
unfolding accepts kind_of_word
ident_type_word o.Abstract ls less at is calm = ap (accepts t.TypeName) (named_plain k.ModifierWord ls less at)
ident_type_word o.And ls less at is calm = ap (accepts t.TypeName) (named_plain k.InfixWord ls less at)
ident_type_word o.Catch ls less at is calm = absurd (cc is)
ident_type_word o.Companion ls less at is calm = ap (accepts t.TypeName) (named_plain k.CompanionWord ls less at)
ident_type_word o.Const ls less at is calm = ap (accepts t.TypeName) (named_plain k.ModifierWord ls less at)
ident_type_word o.Constructor ls less at is calm = ap (accepts t.TypeName) (named_plain k.ConstructorWord ls less at)
ident_type_word o.Finally ls less at is calm = absurd (cc is)
ident_type_word o.Import ls less at is calm = ap (accepts t.TypeName) (named_plain k.ImportWord ls less at)
ident_type_word o.Init ls less at is calm = ap (accepts t.TypeName) (named_plain k.InitWord ls less at)
ident_type_word o.Java ls less at is calm = ap (accepts t.TypeName) (named_plain k.JavaWord ls less at)
ident_type_word o.JvmField ls less at is calm = ap (accepts t.TypeName) (named_plain k.AnnotationWord ls less at)
ident_type_word o.JvmStatic ls less at is calm = ap (accepts t.TypeName) (named_plain k.AnnotationWord ls less at)
ident_type_word o.Open ls less at is calm = ap (accepts t.TypeName) (named_plain k.ModifierWord ls less at)
ident_type_word o.Or ls less at is calm = ap (accepts t.TypeName) (named_plain k.InfixWord ls less at)
ident_type_word o.Override ls less at is calm = ap (accepts t.TypeName) (named_plain k.ModifierWord ls less at)
ident_type_word o.Private ls less at is calm = ident_type_private (set_ahead ls) ls less at
ident_type_word o.Run ls less at is calm = ident_type_run (stands is_curly ls) ls less at (calm refl)
ident_type_word o.Set ls less at is calm = ap (accepts t.TypeName) (named_plain k.SetWord ls less at)
ident_type_word o.Shl ls less at is calm = ap (accepts t.TypeName) (named_plain k.InfixWord ls less at)
ident_type_word o.Shr ls less at is calm = ap (accepts t.TypeName) (named_plain k.InfixWord ls less at)
ident_type_word o.SynchronizedBlock ls less at is calm = absurd (cc is)
ident_type_word o.SynchronizedMethod ls less at is calm = ap (accepts t.TypeName) (named_plain k.AnnotationWord ls less at)
ident_type_word o.Until ls less at is calm = ap (accepts t.TypeName) (named_plain k.UntilWord ls less at)
ident_type_word o.Ushr ls less at is calm = ap (accepts t.TypeName) (named_plain k.InfixWord ls less at)
ident_type_word o.Volatile ls less at is calm = ap (accepts t.TypeName) (named_plain k.AnnotationWord ls less at)
ident_type_word o.Xor ls less at is calm = ap (accepts t.TypeName) (named_plain k.InfixWord ls less at)

pub ident_type : (x : TokenKind) (ls : Letters) → stands is_less ls ≡ false → stands is_at ls ≡ false → is_ident x ≡ true → Calm x ls → accepts t.TypeName (kind_of x ls) ≡ true
unfolding accepts
ident_type (q.Name n) ls less at is calm = ap (accepts t.TypeName) (named_plain k.Name ls less at)
ident_type (q.Word w) ls less at is calm = ident_type_word w ls less at is calm
ident_type _ ls less at is calm = absurd (cc is)

ident_target_private : (b : Bool) (ls : Letters) → stands is_less ls ≡ false → stands is_at ls ≡ false → accepts t.TargetName (if b then k.PrivateSet else named k.PrivateWord ls) ≡ true
unfolding accepts
ident_target_private true ls less at = refl
ident_target_private false ls less at = ap (accepts t.TargetName) (named_plain k.PrivateWord ls less at)

ident_target_run : (b : Bool) (ls : Letters) → stands is_less ls ≡ false → stands is_at ls ≡ false → b ≡ false → accepts t.TargetName (if b then k.RunBlock else named k.Name ls) ≡ true
unfolding accepts
ident_target_run true ls less at h = absurd (cc h)
ident_target_run false ls less at h = ap (accepts t.TargetName) (named_plain k.Name ls less at)

ident_target_word : (w : Word) (ls : Letters) → stands is_less ls ≡ false → stands is_at ls ≡ false → is_ident (q.Word w) ≡ true → Calm (q.Word w) ls → accepts t.TargetName (kind_of_word w ls) ≡ true
unfolding accepts kind_of_word
ident_target_word o.Abstract ls less at is calm = ap (accepts t.TargetName) (named_plain k.ModifierWord ls less at)
ident_target_word o.And ls less at is calm = ap (accepts t.TargetName) (named_plain k.InfixWord ls less at)
ident_target_word o.Catch ls less at is calm = absurd (cc is)
ident_target_word o.Companion ls less at is calm = ap (accepts t.TargetName) (named_plain k.CompanionWord ls less at)
ident_target_word o.Const ls less at is calm = ap (accepts t.TargetName) (named_plain k.ModifierWord ls less at)
ident_target_word o.Constructor ls less at is calm = ap (accepts t.TargetName) (named_plain k.ConstructorWord ls less at)
ident_target_word o.Finally ls less at is calm = absurd (cc is)
ident_target_word o.Import ls less at is calm = ap (accepts t.TargetName) (named_plain k.ImportWord ls less at)
ident_target_word o.Init ls less at is calm = ap (accepts t.TargetName) (named_plain k.InitWord ls less at)
ident_target_word o.Java ls less at is calm = ap (accepts t.TargetName) (named_plain k.JavaWord ls less at)
ident_target_word o.JvmField ls less at is calm = ap (accepts t.TargetName) (named_plain k.AnnotationWord ls less at)
ident_target_word o.JvmStatic ls less at is calm = ap (accepts t.TargetName) (named_plain k.AnnotationWord ls less at)
ident_target_word o.Open ls less at is calm = ap (accepts t.TargetName) (named_plain k.ModifierWord ls less at)
ident_target_word o.Or ls less at is calm = ap (accepts t.TargetName) (named_plain k.InfixWord ls less at)
ident_target_word o.Override ls less at is calm = ap (accepts t.TargetName) (named_plain k.ModifierWord ls less at)
ident_target_word o.Private ls less at is calm = ident_target_private (set_ahead ls) ls less at
ident_target_word o.Run ls less at is calm = ident_target_run (stands is_curly ls) ls less at (calm refl)
ident_target_word o.Set ls less at is calm = ap (accepts t.TargetName) (named_plain k.SetWord ls less at)
ident_target_word o.Shl ls less at is calm = ap (accepts t.TargetName) (named_plain k.InfixWord ls less at)
ident_target_word o.Shr ls less at is calm = ap (accepts t.TargetName) (named_plain k.InfixWord ls less at)
ident_target_word o.SynchronizedBlock ls less at is calm = absurd (cc is)
ident_target_word o.SynchronizedMethod ls less at is calm = ap (accepts t.TargetName) (named_plain k.AnnotationWord ls less at)
ident_target_word o.Until ls less at is calm = ap (accepts t.TargetName) (named_plain k.UntilWord ls less at)
ident_target_word o.Ushr ls less at is calm = ap (accepts t.TargetName) (named_plain k.InfixWord ls less at)
ident_target_word o.Volatile ls less at is calm = ap (accepts t.TargetName) (named_plain k.AnnotationWord ls less at)
ident_target_word o.Xor ls less at is calm = ap (accepts t.TargetName) (named_plain k.InfixWord ls less at)

pub ident_target : (x : TokenKind) (ls : Letters) → stands is_less ls ≡ false → stands is_at ls ≡ false → is_ident x ≡ true → Calm x ls → accepts t.TargetName (kind_of x ls) ≡ true
unfolding accepts
ident_target (q.Name n) ls less at is calm = ap (accepts t.TargetName) (named_plain k.Name ls less at)
ident_target (q.Word w) ls less at is calm = ident_target_word w ls less at is calm
ident_target _ ls less at is calm = absurd (cc is)

ident_name_private : (b : Bool) (ls : Letters) → Free ls → accepts t.Name (if b then k.PrivateSet else named k.PrivateWord ls) ≡ true
unfolding accepts
ident_name_private true ls free = refl
ident_name_private false ls free = named_free k.PrivateWord ls free refl

ident_name_run : (b : Bool) (ls : Letters) → Free ls → b ≡ false → accepts t.Name (if b then k.RunBlock else named k.Name ls) ≡ true
unfolding accepts
ident_name_run true ls free h = absurd (cc h)
ident_name_run false ls free h = named_free k.Name ls free refl

ident_name_word : (w : Word) (ls : Letters) → Free ls → is_ident (q.Word w) ≡ true → Calm (q.Word w) ls → accepts t.Name (kind_of_word w ls) ≡ true
unfolding accepts kind_of_word
ident_name_word o.Abstract ls free is calm = named_free k.ModifierWord ls free refl
ident_name_word o.And ls free is calm = named_free k.InfixWord ls free refl
ident_name_word o.Catch ls free is calm = absurd (cc is)
ident_name_word o.Companion ls free is calm = named_free k.CompanionWord ls free refl
ident_name_word o.Const ls free is calm = named_free k.ModifierWord ls free refl
ident_name_word o.Constructor ls free is calm = named_free k.ConstructorWord ls free refl
ident_name_word o.Finally ls free is calm = absurd (cc is)
ident_name_word o.Import ls free is calm = named_free k.ImportWord ls free refl
ident_name_word o.Init ls free is calm = named_free k.InitWord ls free refl
ident_name_word o.Java ls free is calm = named_free k.JavaWord ls free refl
ident_name_word o.JvmField ls free is calm = named_free k.AnnotationWord ls free refl
ident_name_word o.JvmStatic ls free is calm = named_free k.AnnotationWord ls free refl
ident_name_word o.Open ls free is calm = named_free k.ModifierWord ls free refl
ident_name_word o.Or ls free is calm = named_free k.InfixWord ls free refl
ident_name_word o.Override ls free is calm = named_free k.ModifierWord ls free refl
ident_name_word o.Private ls free is calm = ident_name_private (set_ahead ls) ls free
ident_name_word o.Run ls free is calm = ident_name_run (stands is_curly ls) ls free (calm refl)
ident_name_word o.Set ls free is calm = named_free k.SetWord ls free refl
ident_name_word o.Shl ls free is calm = named_free k.InfixWord ls free refl
ident_name_word o.Shr ls free is calm = named_free k.InfixWord ls free refl
ident_name_word o.SynchronizedBlock ls free is calm = absurd (cc is)
ident_name_word o.SynchronizedMethod ls free is calm = named_free k.AnnotationWord ls free refl
ident_name_word o.Until ls free is calm = named_free k.UntilWord ls free refl
ident_name_word o.Ushr ls free is calm = named_free k.InfixWord ls free refl
ident_name_word o.Volatile ls free is calm = named_free k.AnnotationWord ls free refl
ident_name_word o.Xor ls free is calm = named_free k.InfixWord ls free refl

pub ident_name : (x : TokenKind) (ls : Letters) → Free ls → is_ident x ≡ true → Calm x ls → accepts t.Name (kind_of x ls) ≡ true
unfolding accepts
ident_name (q.Name n) ls free is calm = named_free k.Name ls free refl
ident_name (q.Word w) ls free is calm = ident_name_word w ls free is calm
ident_name _ ls free is calm = absurd (cc is)

ident_any_private : (b : Bool) (ls : Letters) → stands is_at ls ≡ false → accepts t.AnyName (if b then k.PrivateSet else named k.PrivateWord ls) ≡ true
unfolding accepts
ident_any_private true ls at = refl
ident_any_private false ls at = named_any k.PrivateWord ls at refl

ident_any_run : (b : Bool) (ls : Letters) → stands is_at ls ≡ false → b ≡ false → accepts t.AnyName (if b then k.RunBlock else named k.Name ls) ≡ true
unfolding accepts
ident_any_run true ls at h = absurd (cc h)
ident_any_run false ls at h = named_any k.Name ls at refl

ident_any_word : (w : Word) (ls : Letters) → stands is_at ls ≡ false → is_ident (q.Word w) ≡ true → Calm (q.Word w) ls → accepts t.AnyName (kind_of_word w ls) ≡ true
unfolding accepts kind_of_word
ident_any_word o.Abstract ls at is calm = named_any k.ModifierWord ls at refl
ident_any_word o.And ls at is calm = named_any k.InfixWord ls at refl
ident_any_word o.Catch ls at is calm = absurd (cc is)
ident_any_word o.Companion ls at is calm = named_any k.CompanionWord ls at refl
ident_any_word o.Const ls at is calm = named_any k.ModifierWord ls at refl
ident_any_word o.Constructor ls at is calm = named_any k.ConstructorWord ls at refl
ident_any_word o.Finally ls at is calm = absurd (cc is)
ident_any_word o.Import ls at is calm = named_any k.ImportWord ls at refl
ident_any_word o.Init ls at is calm = named_any k.InitWord ls at refl
ident_any_word o.Java ls at is calm = named_any k.JavaWord ls at refl
ident_any_word o.JvmField ls at is calm = named_any k.AnnotationWord ls at refl
ident_any_word o.JvmStatic ls at is calm = named_any k.AnnotationWord ls at refl
ident_any_word o.Open ls at is calm = named_any k.ModifierWord ls at refl
ident_any_word o.Or ls at is calm = named_any k.InfixWord ls at refl
ident_any_word o.Override ls at is calm = named_any k.ModifierWord ls at refl
ident_any_word o.Private ls at is calm = ident_any_private (set_ahead ls) ls at
ident_any_word o.Run ls at is calm = ident_any_run (stands is_curly ls) ls at (calm refl)
ident_any_word o.Set ls at is calm = named_any k.SetWord ls at refl
ident_any_word o.Shl ls at is calm = named_any k.InfixWord ls at refl
ident_any_word o.Shr ls at is calm = named_any k.InfixWord ls at refl
ident_any_word o.SynchronizedBlock ls at is calm = absurd (cc is)
ident_any_word o.SynchronizedMethod ls at is calm = named_any k.AnnotationWord ls at refl
ident_any_word o.Until ls at is calm = named_any k.UntilWord ls at refl
ident_any_word o.Ushr ls at is calm = named_any k.InfixWord ls at refl
ident_any_word o.Volatile ls at is calm = named_any k.AnnotationWord ls at refl
ident_any_word o.Xor ls at is calm = named_any k.InfixWord ls at refl

pub ident_any : (x : TokenKind) (ls : Letters) → stands is_at ls ≡ false → is_ident x ≡ true → Calm x ls → accepts t.AnyName (kind_of x ls) ≡ true
unfolding accepts
ident_any (q.Name n) ls at is calm = named_any k.Name ls at refl
ident_any (q.Word w) ls at is calm = ident_any_word w ls at is calm
ident_any _ ls at is calm = absurd (cc is)

-- ---- before `<`, and before `@`

abbrev pub before_less : Roles → Letters
before_less r = L gap.Plain (Role.Fixed (g.Mark m.Less) ∷ r)

abbrev pub before_at : Roles → Letters
before_at r = L gap.Plain (Role.Fixed (g.Mark m.At) ∷ r)

less_word : (w : Word) (r : Roles) → is_ident (q.Word w) ≡ true → kind_of_word w (before_less r) ≡ (if arguments_ahead (before_less r) then k.NameArguments else k.NameLess)
unfolding kind_of_word named letters tokens mark_kind
less_word o.Abstract r is = refl
less_word o.And r is = refl
less_word o.Catch r is = absurd (cc is)
less_word o.Companion r is = refl
less_word o.Const r is = refl
less_word o.Constructor r is = refl
less_word o.Finally r is = absurd (cc is)
less_word o.Import r is = refl
less_word o.Init r is = refl
less_word o.Java r is = refl
less_word o.JvmField r is = refl
less_word o.JvmStatic r is = refl
less_word o.Open r is = refl
less_word o.Or r is = refl
less_word o.Override r is = refl
less_word o.Private r is = refl
less_word o.Run r is = refl
less_word o.Set r is = refl
less_word o.Shl r is = refl
less_word o.Shr r is = refl
less_word o.SynchronizedBlock r is = absurd (cc is)
less_word o.SynchronizedMethod r is = refl
less_word o.Until r is = refl
less_word o.Ushr r is = refl
less_word o.Volatile r is = refl
less_word o.Xor r is = refl

pub ident_less : (x : TokenKind) (r : Roles) → is_ident x ≡ true → kind_of x (before_less r) ≡ (if arguments_ahead (before_less r) then k.NameArguments else k.NameLess)
unfolding kind_of_word named letters tokens mark_kind
ident_less (q.Name n) r is = refl
ident_less (q.Word w) r is = less_word w r is
ident_less _ r is = absurd (cc is)

label_word : (w : Word) (r : Roles) → is_ident (q.Word w) ≡ true → accepts t.LabelName (kind_of_word w (before_at r)) ≡ true
unfolding kind_of_word named letters tokens mark_kind accepts
label_word o.Abstract r is = refl
label_word o.And r is = refl
label_word o.Catch r is = absurd (cc is)
label_word o.Companion r is = refl
label_word o.Const r is = refl
label_word o.Constructor r is = refl
label_word o.Finally r is = absurd (cc is)
label_word o.Import r is = refl
label_word o.Init r is = refl
label_word o.Java r is = refl
label_word o.JvmField r is = refl
label_word o.JvmStatic r is = refl
label_word o.Open r is = refl
label_word o.Or r is = refl
label_word o.Override r is = refl
label_word o.Private r is = refl
label_word o.Run r is = refl
label_word o.Set r is = refl
label_word o.Shl r is = refl
label_word o.Shr r is = refl
label_word o.SynchronizedBlock r is = absurd (cc is)
label_word o.SynchronizedMethod r is = refl
label_word o.Until r is = refl
label_word o.Ushr r is = refl
label_word o.Volatile r is = refl
label_word o.Xor r is = refl

ident_label : (x : TokenKind) (r : Roles) → is_ident x ≡ true → accepts t.LabelName (kind_of x (before_at r)) ≡ true
unfolding kind_of_word named letters tokens mark_kind accepts
ident_label (q.Name n) r is = refl
ident_label (q.Word w) r is = label_word w r is
ident_label _ r is = absurd (cc is)

applied_by : (b : Bool) → accepts t.TypeNameArguments (if b then k.NameArguments else k.NameLess) ≡ true
unfolding accepts
applied_by true = refl
applied_by false = refl

generic_by : (b : Bool) → b ≡ true → accepts (t.Only k.NameArguments) (if b then k.NameArguments else k.NameLess) ≡ true
unfolding accepts
generic_by true is = refl
generic_by false is = absurd (cc is)

-- ---- tokens that a terminal takes as they are

picked : (x y z : Bool) (a : Option (Built × Letters)) (u : Built) (v w : Letters) → x ≡ true → y ≡ false → z ≡ false → (if x then (if y then a else Some (u, if z then v else w)) else None) ≡ Some (u, w)
picked true false false a u v w h i j = refl
picked false y z a u v w h i j = absurd (cc h)
picked true true z a u v w h i j = absurd (cc i)
picked true false true a u v w h i j = absurd (cc j)

takes_as : (c : Term) (x : TokenKind) (b : Built) (ls : Letters) → accepts c (kind_of x ls) ≡ true → is_end c ≡ false → blank_after c ≡ false
    → takes taken c b (letter (token x gap.Plain) ls ∷ ls) ≡ Some (taken c (token x gap.Plain) b, ls)
unfolding takes
takes_as c x b ls is takes_it blank =
    ap (λ z. takes taken c b (record { kind = kind_of x ls; token = token x z } ∷ ls)) (gap_plain (kind_of x ls))
    ∙ picked (accepts c (kind_of x ls)) (is_end c) (blank_after c) None (taken c (token x gap.Plain) b) (relaxed ls) ls is takes_it blank

pub takes_name : (n : List ℕ) (r : Roles) (b : Built) → Free (L gap.Plain r) → Calm (name_token n) (L gap.Plain r) → takes taken t.Name b (L gap.Plain (Role.Name n ∷ r)) ≡ Some (with_name (name_made n) b, L gap.Plain r)
unfolding letters tokens taken
takes_name n r b free calm = takes_as t.Name (name_token n) b (L gap.Plain r) (ident_name (name_token n) (L gap.Plain r) free (name_ident n) calm) refl refl ∙ ap (λ z. Some (with_name (record { name = z; at = made }) b, L gap.Plain r)) (name_text n)

pub takes_type_name : (n : List ℕ) (r : Roles) (b : Built) → stands is_less (L gap.Plain r) ≡ false → stands is_at (L gap.Plain r) ≡ false → Calm (name_token n) (L gap.Plain r) → takes taken t.TypeName b (L gap.Plain (Role.Name n ∷ r)) ≡ Some (with_name (name_made n) b, L gap.Plain r)
unfolding letters tokens taken
takes_type_name n r b less at calm = takes_as t.TypeName (name_token n) b (L gap.Plain r) (ident_type (name_token n) (L gap.Plain r) less at (name_ident n) calm) refl refl ∙ ap (λ z. Some (with_name (record { name = z; at = made }) b, L gap.Plain r)) (name_text n)

takes_target : (n : List ℕ) (r : Roles) (b : Built) → stands is_less (L gap.Plain r) ≡ false → stands is_at (L gap.Plain r) ≡ false → Calm (name_token n) (L gap.Plain r) → takes taken t.TargetName b (L gap.Plain (Role.Name n ∷ r)) ≡ Some (with_name (name_made n) b, L gap.Plain r)
unfolding letters tokens taken
takes_target n r b less at calm = takes_as t.TargetName (name_token n) b (L gap.Plain r) (ident_target (name_token n) (L gap.Plain r) less at (name_ident n) calm) refl refl ∙ ap (λ z. Some (with_name (record { name = z; at = made }) b, L gap.Plain r)) (name_text n)

synchronized_by : (round less at z : Bool) → less ≡ false → at ≡ false → accepts t.TargetName (if round then k.SynchronizedBlock else (if less then (if z then k.NameArguments else k.NameLess) else (if at then label_of k.Name else k.Name))) ≡ true
unfolding accepts
synchronized_by true less at z h i = refl
synchronized_by false false false z h i = refl
synchronized_by false true at z h i = absurd (cc h)
synchronized_by false false true z h i = absurd (cc i)

-- the word `synchronized` as a target
takes_synchronized : (r : Roles) (b : Built) → stands is_less (L gap.Plain r) ≡ false → stands is_at (L gap.Plain r) ≡ false → takes taken t.TargetName b (L gap.Plain (Role.Fixed (g.Word o.SynchronizedBlock) ∷ r)) ≡ Some (with_name (name_made (codes "synchronized")) b, L gap.Plain r)
unfolding letters tokens taken kind_of_word named
takes_synchronized r b less at = takes_as t.TargetName (q.Word o.SynchronizedBlock) b (L gap.Plain r) (synchronized_by (stands is_round (L gap.Plain r)) (stands is_less (L gap.Plain r)) (stands is_at (L gap.Plain r)) (arguments_ahead (L gap.Plain r)) less at) refl refl

target_by : (c : Bool) (n : List ℕ) (r : Roles) (b : Built) → bytes_eq n (codes "synchronized") ≡ c → stands is_less (L gap.Plain r) ≡ false → stands is_at (L gap.Plain r) ≡ false → Calm (name_token n) (L gap.Plain r)
    → takes taken t.TargetName b (L gap.Plain ((if c then fixed (g.Word o.SynchronizedBlock ∷ []) else name n) ++ r)) ≡ Some (with_name (name_made n) b, L gap.Plain r)
target_by true n r b is less at calm =
    let same : n ≡ codes "synchronized" = same_bytes n (codes "synchronized") is in
    subst (λ z. takes taken t.TargetName b (L gap.Plain (Role.Fixed (g.Word o.SynchronizedBlock) ∷ r)) ≡ Some (with_name (name_made z) b, L gap.Plain r)) (sym same) (takes_synchronized r b less at)
target_by false n r b is less at calm = takes_target n r b less at calm

-- the name of a target as it is printed
pub takes_target_name : (n : List ℕ) (r : Roles) (b : Built) → stands is_less (L gap.Plain r) ≡ false → stands is_at (L gap.Plain r) ≡ false → Calm (name_token n) (L gap.Plain r)
    → takes taken t.TargetName b (L gap.Plain (target_name n ++ r)) ≡ Some (with_name (name_made n) b, L gap.Plain r)
takes_target_name n r b less at calm = target_by (bytes_eq n (codes "synchronized")) n r b refl less at calm

pub takes_any_name : (n : List ℕ) (r : Roles) (b : Built) → stands is_at (L gap.Plain r) ≡ false → Calm (name_token n) (L gap.Plain r) → takes taken t.AnyName b (L gap.Plain (Role.Name n ∷ r)) ≡ Some (with_name (name_made n) b, L gap.Plain r)
unfolding letters tokens taken
takes_any_name n r b at calm = takes_as t.AnyName (name_token n) b (L gap.Plain r) (ident_any (name_token n) (L gap.Plain r) at (name_ident n) calm) refl refl ∙ ap (λ z. Some (with_name (record { name = z; at = made }) b, L gap.Plain r)) (name_text n)

pub takes_label : (n : List ℕ) (r : Roles) (b : Built) → takes taken t.LabelName b (L gap.Plain (Role.Name n ∷ Role.Fixed (g.Mark m.At) ∷ r)) ≡ Some (with_name (name_made n) b, L gap.Plain (Role.Fixed (g.Mark m.At) ∷ r))
unfolding letters tokens taken
takes_label n r b = takes_as t.LabelName (name_token n) b (L gap.Plain (Role.Fixed (g.Mark m.At) ∷ r)) (ident_label (name_token n) r (name_ident n)) refl refl ∙ ap (λ z. Some (with_name (record { name = z; at = made }) b, L gap.Plain (Role.Fixed (g.Mark m.At) ∷ r))) (name_text n)

pub takes_applied : (n : List ℕ) (r : Roles) (b : Built) → takes taken t.TypeNameArguments b (L gap.Plain (Role.Name n ∷ Role.Fixed (g.Mark m.Less) ∷ r)) ≡ Some (with_name (name_made n) b, L gap.Plain (Role.Fixed (g.Mark m.Less) ∷ r))
unfolding letters tokens taken
takes_applied n r b = takes_as t.TypeNameArguments (name_token n) b (L gap.Plain (Role.Fixed (g.Mark m.Less) ∷ r)) (ap (accepts t.TypeNameArguments) (ident_less (name_token n) r (name_ident n)) ∙ applied_by (arguments_ahead (before_less r))) refl refl ∙ ap (λ z. Some (with_name (record { name = z; at = made }) b, L gap.Plain (Role.Fixed (g.Mark m.Less) ∷ r))) (name_text n)

pub takes_generic : (n : List ℕ) (r : Roles) (b : Built) → arguments_ahead (before_less r) ≡ true → takes taken (t.Only k.NameArguments) b (L gap.Plain (Role.Name n ∷ Role.Fixed (g.Mark m.Less) ∷ r)) ≡ Some (with_name (name_made n) b, L gap.Plain (Role.Fixed (g.Mark m.Less) ∷ r))
unfolding letters tokens taken
takes_generic n r b ahead = takes_as (t.Only k.NameArguments) (name_token n) b (L gap.Plain (Role.Fixed (g.Mark m.Less) ∷ r)) (ap (accepts (t.Only k.NameArguments)) (ident_less (name_token n) r (name_ident n)) ∙ generic_by (arguments_ahead (before_less r)) ahead) refl refl ∙ ap (λ z. Some (with_name (record { name = z; at = made }) b, L gap.Plain (Role.Fixed (g.Mark m.Less) ∷ r))) (name_text n)

-- Names and numbers of Kotlin, before what ends them.
use Rattle.std.proofs.Common.{◌≡◌, ℕ, ◌+◌, ◌<◌, ◌^◌, ◌%◌, Bool, true, false, not, ◌&&◌, ◌||◌, length, if◌then◌else◌, List, [], ◌∷◌, ◌++◌, refl, sym, ap, ◌∙◌, subst, arith, append_assoc}
use Rattle.std.proofs.lemmas.Bool.{eq-eqb}
use Rattle.std.proofs.lemmas.Bool.Decides.{nat_tests}
use Rattle.std.proofs.lemmas.Fmt.{decimal_injective, decimal_by_steps}
use Rattle.std.specs.Prelude.{◌==◌, codes}
use Rattle.std.specs.Fmt.{decimal}
use Rattle.std.specs.List.{list_all}
use Rattle.kotlin_words.specs.Words.{hard_keywords, contains_word}
use Rattle.meanings.specs.declared.kotlin.KExpr.{KExpr}
use Rattle.meanings.specs.Values.{Name}
use Rattle.meanings.specs.KText.{begins_word, is_word_byte, is_underscore, is_word, other_keywords, is_keyword, is_bare, name_text}
use Rattle.meanings.specs.KSpells.{may_stand, IsName, NoKeywordStandsBare}
use Rattle.meanings.proofs.Layers.{both_are, k_local, k_number}

-- ---- words

abbrev pub IsWord : List ℕ → Type 0
IsWord [] = Unit {0}
IsWord (b ∷ more) = (is_word_byte b ≡ true) × IsWord more

words : (x : List ℕ) → list_all is_word_byte x ≡ true → IsWord x
words [] h = tt
words (b ∷ x) h = let two = both_are (is_word_byte b) (list_all is_word_byte x) h in (two.0, words x two.1)

-- no word goes on at the front
abbrev pub Stops : List ℕ → Type 0
Stops [] = Unit {0}
Stops (b ∷ more) = is_word_byte b ≡ false

not_both : (b c : ℕ) → is_word_byte b ≡ true → is_word_byte c ≡ false → b ≡ c → ⊥
not_both b c word stop e = let h : is_word_byte b ≡ false = rw e stop in cc

no_word : (b : ℕ) (y r s : List ℕ) → is_word_byte b ≡ true → Stops r → r ≡ b ∷ (y ++ s) → ⊥
no_word b y [] s word stops e = cc
no_word b y (c ∷ r) s word stops e = let same : b ≡ c = cc in not_both b c word stops same

-- two words before what stops them are the same
pub cut : (x y r s : List ℕ) → IsWord x → IsWord y → Stops r → Stops s → x ++ r ≡ y ++ s → (x ≡ y) × (r ≡ s)
cut [] [] r s hx hy hr hs e = (refl, e)
cut [] (b ∷ y) r s hx hy hr hs e = absurd (no_word b y r s hy.0 hr e)
cut (b ∷ x) [] r s hx hy hr hs e = absurd (no_word b x s r hx.0 hs (sym e))
cut (b ∷ x) (c ∷ y) r s hx hy hr hs e =
    let head : b ≡ c = cc in
    let tail : x ++ r ≡ y ++ s = cc in
    let rest : (x ≡ y) × (r ≡ s) = cut x y r s hx.1 hy.1 hr hs tail in
    let same : x ≡ y = rest.0 in (cc, rest.1)

-- ---- names

record IsBare (b : ℕ) (more : List ℕ) : Type 0 where
  begins : begins_word b ≡ true
  word : IsWord (b ∷ more)
  keyword : contains_word hard_keywords (b ∷ more) ≡ false

neither : (a b : Bool) → not (a || b) ≡ true → a ≡ false
neither true b h = cc
neither false b h = refl

bare_is : (b : ℕ) (more : List ℕ) → is_bare (b ∷ more) ≡ true → IsBare b more
unfolding is_bare
bare_is b more h =
    let name = b ∷ more in
    let all = both_are (is_word name && not (list_all is_underscore name)) (not (is_keyword name)) h in
    let some = both_are (is_word name) (not (list_all is_underscore name)) all.0 in
    let first = both_are (not (length name == 0) && begins_word b) (list_all is_word_byte name) some.0 in
    record {
      begins = (both_are (not (length name == 0)) (begins_word b) first.0).1;
      word = words name first.1;
      keyword = neither (contains_word hard_keywords name) (contains_word other_keywords name) all.1;
    }

bare_none : is_bare [] ≡ true → ⊥
unfolding is_bare
bare_none h = cc

bare_is_word : (name : Name) → is_bare name ≡ true → IsWord name
bare_is_word [] h = tt
bare_is_word (b ∷ more) h = (bare_is b more h).word

abbrev text_by : Bool → Name → List ℕ
text_by true name = name
text_by false name = 96 ∷ (name ++ 96 ∷ [])

chosen : (b : Bool) (name : Name) → (if b then name else codes "`" ++ name ++ codes "`") ≡ text_by b name
chosen true name = refl
chosen false name = refl

text_is : (name : Name) → name_text name ≡ text_by (is_bare name) name
unfolding name_text
text_is name = chosen (is_bare name) name

no_tick : (b : ℕ) → may_stand b ≡ true → b ≡ 96 → ⊥
no_tick b h e = let stands : may_stand 96 ≡ true = subst (λ (c : ℕ). may_stand c ≡ true) e h in cc

stands : (name : Name) → IsName name → list_all may_stand name ≡ true
stands [] h = absurd h
stands (b ∷ more) h = h

-- two names before their closing backticks are the same
quoted_cut : (x y r s : List ℕ) → list_all may_stand x ≡ true → list_all may_stand y ≡ true → x ++ (96 ∷ r) ≡ y ++ (96 ∷ s) → (x ≡ y) × (r ≡ s)
quoted_cut [] [] r s hx hy e = (refl, cc)
quoted_cut [] (b ∷ y) r s hx hy e = let same : b ≡ 96 = cc in absurd (no_tick b (both_are (may_stand b) (list_all may_stand y) hy).0 same)
quoted_cut (b ∷ x) [] r s hx hy e = let same : b ≡ 96 = cc in absurd (no_tick b (both_are (may_stand b) (list_all may_stand x) hx).0 same)
quoted_cut (b ∷ x) (c ∷ y) r s hx hy e =
    let head : b ≡ c = cc in
    let tail : x ++ (96 ∷ r) ≡ y ++ (96 ∷ s) = cc in
    let rest : (x ≡ y) × (r ≡ s) = quoted_cut x y r s (both_are (may_stand b) (list_all may_stand x) hx).1 (both_are (may_stand c) (list_all may_stand y) hy).1 tail in
    let same : x ≡ y = rest.0 in (cc, rest.1)

bare_tick : (x r t : List ℕ) → is_bare x ≡ true → x ++ r ≡ 96 ∷ t → ⊥
bare_tick [] r t h e = bare_none h
bare_tick (b ∷ x) r t h e =
    let same : b ≡ 96 = cc in
    let begins : begins_word 96 ≡ true = subst (λ (c : ℕ). begins_word c ≡ true) same (bare_is b x h).begins in cc

same_tail : {b c : ℕ} {x y : List ℕ} → b ∷ x ≡ c ∷ y → x ≡ y
same_tail e = cc

name_cut_by : (b c : Bool) (x y r s : List ℕ) → is_bare x ≡ b → is_bare y ≡ c → IsName x → IsName y → Stops r → Stops s → text_by b x ++ r ≡ text_by c y ++ s → (x ≡ y) × (r ≡ s)
name_cut_by true true x y r s bx by hx hy hr hs e = cut x y r s (bare_is_word x bx) (bare_is_word y by) hr hs e
name_cut_by true false x y r s bx by hx hy hr hs e = absurd (bare_tick x r ((y ++ 96 ∷ []) ++ s) bx e)
name_cut_by false true x y r s bx by hx hy hr hs e = absurd (bare_tick y s ((x ++ 96 ∷ []) ++ r) by (sym e))
name_cut_by false false x y r s bx by hx hy hr hs e =
    quoted_cut x y r s (stands x hx) (stands y hy) (sym (append_assoc x (96 ∷ []) r) ∙ same_tail e ∙ append_assoc y (96 ∷ []) s)

-- the texts of two names before what stops them are those of one
pub name_cut : (x y r s : List ℕ) → IsName x → IsName y → Stops r → Stops s → name_text x ++ r ≡ name_text y ++ s → (x ≡ y) × (r ≡ s)
name_cut x y r s hx hy hr hs e =
    name_cut_by (is_bare x) (is_bare y) x y r s refl refl hx hy hr hs (ap (λ (t : List ℕ). t ++ r) (sym (text_is x)) ∙ e ∙ ap (λ (t : List ℕ). t ++ s) (text_is y))

-- with what the text of a name begins
abbrev begins_name : ℕ → Bool
begins_name b = begins_word b || (b == 96)

begins_either : (b : ℕ) → begins_word b ≡ true → begins_name b ≡ true
begins_either b h = rw h refl

name_begins_by : (v : Bool) (x r : List ℕ) (b : ℕ) (t : List ℕ) → is_bare x ≡ v → text_by v x ++ r ≡ b ∷ t → begins_name b ≡ true
name_begins_by true [] r b t is e = absurd (bare_none is)
name_begins_by true (c ∷ x) r b t is e = let same : c ≡ b = cc in subst (λ (d : ℕ). begins_name d ≡ true) same (begins_either c (bare_is c x is).begins)
name_begins_by false x r b t is e = let same : 96 ≡ b = cc in subst (λ (d : ℕ). begins_name d ≡ true) same refl

name_begins : (x r : List ℕ) (b : ℕ) (t : List ℕ) → name_text x ++ r ≡ b ∷ t → begins_name b ≡ true
name_begins x r b t e = name_begins_by (is_bare x) x r b t refl (ap (λ (text : List ℕ). text ++ r) (sym (text_is x)) ∙ e)

no_keyword_by : (b : Bool) (name : Name) → is_bare name ≡ b → contains_word hard_keywords (text_by b name) ≡ false
unfolding hard_keywords
no_keyword_by true [] is = absurd (bare_none is)
no_keyword_by true (b ∷ more) is = (bare_is b more is).keyword
no_keyword_by false name is = refl

pub no_keyword_stands_bare : NoKeywordStandsBare
no_keyword_stands_bare name = ap (contains_word hard_keywords) (text_is name) ∙ no_keyword_by (is_bare name) name refl

-- ---- numbers

digit_is_word : (n : ℕ) → n < 10 → is_word_byte (48 + n) ≡ true
digit_is_word n h = grind (arith, nat_tests)

digit_begins_none : (n : ℕ) → n < 10 → begins_name (48 + n) ≡ false
digit_begins_none n h = grind (arith, nat_tests)

abbrev pub IsNumber : List ℕ → Type 0
IsNumber [] = ⊥
IsNumber (b ∷ more) = (begins_name b ≡ false) × IsWord (b ∷ more)

word_more : (x : List ℕ) (b : ℕ) → IsWord x → is_word_byte b ≡ true → IsWord (x ++ b ∷ [])
word_more [] b h g = (g, tt)
word_more (c ∷ x) b h g = (h.0, word_more x b h.1 g)

number_more : (x : List ℕ) (b : ℕ) → IsNumber x → is_word_byte b ≡ true → IsNumber (x ++ b ∷ [])
number_more [] b h g = absurd h
number_more (c ∷ x) b h g = (h.0, word_more (c ∷ x) b h.1 g)

pub decimal_is_number : (n : ℕ) → n < 2 ^ 64 → IsNumber (decimal n)
decimal_is_number n h = decimal_by_steps (λ n ds. IsNumber ds) (λ n low. (digit_begins_none n low, (digit_is_word n low, tt))) (λ n ds high number. number_more ds (48 + n % 10) number (digit_is_word (n % 10) (omega arith))) n h

pub number_is_word : (x : List ℕ) → IsNumber x → IsWord x
number_is_word [] h = absurd h
number_is_word (b ∷ x) h = h.1

no_name : (x ds r s : List ℕ) → IsNumber ds → name_text x ++ r ≡ ds ++ s → ⊥
no_name x [] r s h e = h
no_name x (c ∷ ds) r s h e = let begins : begins_name c ≡ true = name_begins x r c (ds ++ s) e in let c : true ≡ false = sym begins ∙ h.0 in cc

pub differ : (b c : ℕ) → (b == c) ≡ false → b ≡ c → ⊥
differ b c apart e = let h : (b == c) ≡ true = eq-eqb b c e in cc

-- ---- a name or a number

pub data Word : Type 0 where
  AName : Name → Word
  ANumber : ℕ → Word

abbrev pub IsOperand : Word → Type 0
IsOperand (AName name) = IsName name
IsOperand (ANumber n) = n < 2 ^ 31

abbrev pub word_text : Word → List ℕ
word_text (AName name) = name_text name
word_text (ANumber n) = decimal n

abbrev pub word_tree : Word → KExpr
word_tree (AName name) = k_local name
word_tree (ANumber n) = k_number n

decimal_is_word : (n : ℕ) → n < 2 ^ 31 → IsWord (decimal n)
decimal_is_word n h = number_is_word (decimal n) (decimal_is_number n (omega arith))

-- the texts of two operands before what stops them are those of one
pub operand_cut : (a b : Word) (r s : List ℕ) → IsOperand a → IsOperand b → Stops r → Stops s → word_text a ++ r ≡ word_text b ++ s → (a ≡ b) × (r ≡ s)
operand_cut (AName x) (AName y) r s h g hr hs e = let parts = name_cut x y r s h g hr hs e in (ap AName parts.0, parts.1)
operand_cut (AName x) (ANumber n) r s h g hr hs e = absurd (no_name x (decimal n) r s (decimal_is_number n (omega arith)) e)
operand_cut (ANumber m) (AName y) r s h g hr hs e = absurd (no_name y (decimal m) s r (decimal_is_number m (omega arith)) (sym e))
operand_cut (ANumber m) (ANumber n) r s h g hr hs e =
    let parts = cut (decimal m) (decimal n) r s (decimal_is_word m h) (decimal_is_word n g) hr hs e in
    (ap ANumber (decimal_injective m n (omega arith) (omega arith) parts.0), parts.1)

-- no operand begins with `(`
number_begins : (x r y : List ℕ) → IsNumber x → x ++ r ≡ 40 ∷ y → ⊥
number_begins [] r y h e = h
number_begins (b ∷ x) r y h e = let same : b ≡ 40 = cc in not_both b 40 h.1.0 refl same

pub no_paren : (a : Word) (r y : List ℕ) → IsOperand a → word_text a ++ r ≡ 40 ∷ y → ⊥
no_paren (AName x) r y h e = let begins : begins_name 40 ≡ true = name_begins x r 40 y e in cc
no_paren (ANumber n) r y h e = number_begins (decimal n) r y (decimal_is_number n (omega arith)) e

-- A mark is spelled so, and no longer one begins the text.
use Rattle.std.proofs.Common.{◌≡◌, ℕ, ◌+◌, ◌≤◌, Bool, true, false, ◌&&◌, [], ◌∷◌, length, take, eqb, cond, refl, ◌∙◌, ap, subst, arith}
use Rattle.std.proofs.lemmas.Bool.{eqb-true}
use Rattle.kotlin_tree.specs.declared.tokens.Mark.{Mark}
use Rattle.kotlin_tree.specs.declared.tokens.Mark.TheVariants as marks
use Rattle.kotlin_tree.specs.Spellings.{mark_text}
use Rattle.kotlin_lexer.specs.declared.marks.MarkKind.{MarkKind}
use Rattle.kotlin_lexer.specs.declared.marks.MarkKind.TheVariants as kinds
use Rattle.kotlin_lexer.specs.Marks.{mark_of, either, doubled, equals, not_marks, minus, single}

-- what a mark's kind says of the three characters
abbrev Says : ℕ → ℕ → ℕ → MarkKind → Type 0
Says c d e kinds.Nothing = Unit {0}
Says c d e (kinds.Mark m n) = take (n + 1) (c ∷ d ∷ e ∷ []) ≡ mark_text m

record IsSpelled (c d e : ℕ) (kind : MarkKind) : Type 0 where
  says : Says c d e kind

chosen : (c d e : ℕ) (b : Bool) (x y : MarkKind) → (b ≡ true → IsSpelled c d e x) → IsSpelled c d e y → IsSpelled c d e (cond b x y)
chosen c d e true x y h k = h refl
chosen c d e false x y h k = k

none : (c d e : ℕ) → IsSpelled c d e kinds.Nothing
none c d e = record { says = tt }

one : (c d e k : ℕ) (m : Mark) → c ≡ k → k ∷ [] ≡ mark_text m → IsSpelled c d e (kinds.Mark m 0)
one c d e k m h t = record { says = ap (λ x. x ∷ []) h ∙ t }

two : (c d e k l : ℕ) (m : Mark) → c ≡ k → d ≡ l → k ∷ l ∷ [] ≡ mark_text m → IsSpelled c d e (kinds.Mark m 1)
two c d e k l m h i t = record { says = ap (λ x. x ∷ d ∷ []) h ∙ (ap (λ x. k ∷ x ∷ []) i ∙ t) }

three : (c d e k l n : ℕ) (m : Mark) → c ≡ k → d ≡ l → e ≡ n → k ∷ l ∷ n ∷ [] ≡ mark_text m → IsSpelled c d e (kinds.Mark m 2)
three c d e k l n m h i j t = record { says = ap (λ x. x ∷ d ∷ e ∷ []) h ∙ (ap (λ x. k ∷ x ∷ e ∷ []) i ∙ (ap (λ x. k ∷ l ∷ x ∷ []) j ∙ t)) }

either_spelled : (c d e k l : ℕ) (long short : Mark) → c ≡ k → k ∷ l ∷ [] ≡ mark_text long → k ∷ [] ≡ mark_text short → IsSpelled c d e (either d l long short)
either_spelled c d e k l long short h t u = chosen c d e (eqb d l) (kinds.Mark long 1) (kinds.Mark short 0) (λ i. two c d e k l long h (eqb-true d l i) t) (one c d e k short h u)

doubled_spelled : (c d e k : ℕ) (m : Mark) → c ≡ k → k ∷ k ∷ [] ≡ mark_text m → IsSpelled c d e (doubled d k m)
doubled_spelled c d e k m h t = chosen c d e (eqb d k) (kinds.Mark m 1) kinds.Nothing (λ i. two c d e k k m h (eqb-true d k i) t) (none c d e)

minus_spelled : (c d e : ℕ) → c ≡ 45 → IsSpelled c d e (minus d)
minus_spelled c d e h =
    chosen c d e (eqb d 62) (kinds.Mark marks.Arrow 1) (either d 45 marks.MinusMinus marks.Minus)
    (λ i. two c d e 45 62 marks.Arrow h (eqb-true d 62 i) refl) (either_spelled c d e 45 45 marks.MinusMinus marks.Minus h refl refl)

both : (x y : Bool) → (x && y) ≡ true → (x ≡ true) × (y ≡ true)
both true y h = (refl, h)
both false y h = cc

equals_spelled : (c d e : ℕ) → c ≡ 61 → IsSpelled c d e (equals d e)
equals_spelled c d e h =
    chosen c d e (eqb d 61 && eqb e 61) (kinds.Mark marks.Identical 2) (either d 61 marks.Equal marks.Assign)
    (λ i. let b = both (eqb d 61) (eqb e 61) i in three c d e 61 61 61 marks.Identical h (eqb-true d 61 b.0) (eqb-true e 61 b.1) refl)
    (either_spelled c d e 61 61 marks.Equal marks.Assign h refl refl)

not_spelled : (c d e : ℕ) → c ≡ 33 → IsSpelled c d e (not_marks d e)
not_spelled c d e h =
    chosen c d e (eqb d 33) (kinds.Mark marks.NotNull 1) (cond (eqb d 61 && eqb e 61) (kinds.Mark marks.NotIdentical 2) (either d 61 marks.NotEqual marks.Not))
    (λ i. two c d e 33 33 marks.NotNull h (eqb-true d 33 i) refl)
    (chosen c d e (eqb d 61 && eqb e 61) (kinds.Mark marks.NotIdentical 2) (either d 61 marks.NotEqual marks.Not)
    (λ i. let b = both (eqb d 61) (eqb e 61) i in three c d e 33 61 61 marks.NotIdentical h (eqb-true d 61 b.0) (eqb-true e 61 b.1) refl)
    (either_spelled c d e 33 61 marks.NotEqual marks.Not h refl refl))

single_spelled : (c d e : ℕ) → IsSpelled c d e (single c)
single_spelled c d e =
    chosen c d e (eqb c 40) (kinds.Mark marks.OpenRound 0) _ (λ h. one c d e 40 marks.OpenRound (eqb-true c 40 h) refl) (
    chosen c d e (eqb c 41) (kinds.Mark marks.CloseRound 0) _ (λ h. one c d e 41 marks.CloseRound (eqb-true c 41 h) refl) (
    chosen c d e (eqb c 91) (kinds.Mark marks.OpenSquare 0) _ (λ h. one c d e 91 marks.OpenSquare (eqb-true c 91 h) refl) (
    chosen c d e (eqb c 93) (kinds.Mark marks.CloseSquare 0) _ (λ h. one c d e 93 marks.CloseSquare (eqb-true c 93 h) refl) (
    chosen c d e (eqb c 123) (kinds.Mark marks.OpenCurly 0) _ (λ h. one c d e 123 marks.OpenCurly (eqb-true c 123 h) refl) (
    chosen c d e (eqb c 125) (kinds.Mark marks.CloseCurly 0) _ (λ h. one c d e 125 marks.CloseCurly (eqb-true c 125 h) refl) (
    chosen c d e (eqb c 44) (kinds.Mark marks.Comma 0) _ (λ h. one c d e 44 marks.Comma (eqb-true c 44 h) refl) (
    chosen c d e (eqb c 46) (kinds.Mark marks.Dot 0) _ (λ h. one c d e 46 marks.Dot (eqb-true c 46 h) refl) (
    chosen c d e (eqb c 64) (kinds.Mark marks.At 0) _ (λ h. one c d e 64 marks.At (eqb-true c 64 h) refl) (
    chosen c d e (eqb c 63) (kinds.Mark marks.Question 0) _ (λ h. one c d e 63 marks.Question (eqb-true c 63 h) refl) (
    chosen c d e (eqb c 42) (kinds.Mark marks.Star 0) _ (λ h. one c d e 42 marks.Star (eqb-true c 42 h) refl) (
    chosen c d e (eqb c 47) (kinds.Mark marks.Slash 0) _ (λ h. one c d e 47 marks.Slash (eqb-true c 47 h) refl) (
    chosen c d e (eqb c 37) (kinds.Mark marks.Percent 0) _ (λ h. one c d e 37 marks.Percent (eqb-true c 37 h) refl) (
    none c d e)))))))))))))

all_spelled : (c d e : ℕ) → IsSpelled c d e (mark_of c d e)
unfolding mark_of
all_spelled c d e =
    chosen c d e (eqb c 58) _ _ (λ h. either_spelled c d e 58 58 marks.DoubleColon marks.Colon (eqb-true c 58 h) refl refl) (
    chosen c d e (eqb c 61) _ _ (λ h. equals_spelled c d e (eqb-true c 61 h)) (
    chosen c d e (eqb c 33) _ _ (λ h. not_spelled c d e (eqb-true c 33 h)) (
    chosen c d e (eqb c 43) _ _ (λ h. either_spelled c d e 43 43 marks.PlusPlus marks.Plus (eqb-true c 43 h) refl refl) (
    chosen c d e (eqb c 45) _ _ (λ h. minus_spelled c d e (eqb-true c 45 h)) (
    chosen c d e (eqb c 38) _ _ (λ h. doubled_spelled c d e 38 marks.AndAnd (eqb-true c 38 h) refl) (
    chosen c d e (eqb c 124) _ _ (λ h. doubled_spelled c d e 124 marks.OrOr (eqb-true c 124 h) refl) (
    chosen c d e (eqb c 60) _ _ (λ h. either_spelled c d e 60 61 marks.LessEqual marks.Less (eqb-true c 60 h) refl refl) (
    chosen c d e (eqb c 62) _ _ (λ h. either_spelled c d e 62 61 marks.GreaterEqual marks.Greater (eqb-true c 62 h) refl refl) (
    single_spelled c d e)))))))))

pub spelled : (c d e n : ℕ) (m : Mark) → mark_of c d e ≡ kinds.Mark m n → take (n + 1) (c ∷ d ∷ e ∷ []) ≡ mark_text m
spelled c d e n m h = (subst (λ k. IsSpelled c d e k) h (all_spelled c d e)).says

at_DoubleColon : (e n : ℕ) (m : Mark) → mark_of 58 58 e ≡ kinds.Mark m n → 2 ≤ n + 1
unfolding mark_of
at_DoubleColon e n m h = let k : 1 ≡ n = cc in omega arith

at_PlusPlus : (e n : ℕ) (m : Mark) → mark_of 43 43 e ≡ kinds.Mark m n → 2 ≤ n + 1
unfolding mark_of
at_PlusPlus e n m h = let k : 1 ≡ n = cc in omega arith

at_MinusMinus : (e n : ℕ) (m : Mark) → mark_of 45 45 e ≡ kinds.Mark m n → 2 ≤ n + 1
unfolding mark_of
at_MinusMinus e n m h = let k : 1 ≡ n = cc in omega arith

at_Arrow : (e n : ℕ) (m : Mark) → mark_of 45 62 e ≡ kinds.Mark m n → 2 ≤ n + 1
unfolding mark_of
at_Arrow e n m h = let k : 1 ≡ n = cc in omega arith

at_AndAnd : (e n : ℕ) (m : Mark) → mark_of 38 38 e ≡ kinds.Mark m n → 2 ≤ n + 1
unfolding mark_of
at_AndAnd e n m h = let k : 1 ≡ n = cc in omega arith

at_OrOr : (e n : ℕ) (m : Mark) → mark_of 124 124 e ≡ kinds.Mark m n → 2 ≤ n + 1
unfolding mark_of
at_OrOr e n m h = let k : 1 ≡ n = cc in omega arith

at_LessEqual : (e n : ℕ) (m : Mark) → mark_of 60 61 e ≡ kinds.Mark m n → 2 ≤ n + 1
unfolding mark_of
at_LessEqual e n m h = let k : 1 ≡ n = cc in omega arith

at_GreaterEqual : (e n : ℕ) (m : Mark) → mark_of 62 61 e ≡ kinds.Mark m n → 2 ≤ n + 1
unfolding mark_of
at_GreaterEqual e n m h = let k : 1 ≡ n = cc in omega arith

at_NotNull : (e n : ℕ) (m : Mark) → mark_of 33 33 e ≡ kinds.Mark m n → 2 ≤ n + 1
unfolding mark_of
at_NotNull e n m h = let k : 1 ≡ n = cc in omega arith

-- a mark of two characters, or the one of three that begins with it
longer : (b : Bool) (n : ℕ) (m three two : Mark) → cond b (kinds.Mark three 2) (kinds.Mark two 1) ≡ kinds.Mark m n → 2 ≤ n + 1
longer true n m three two h = let k : 2 ≡ n = cc in omega arith
longer false n m three two h = let k : 1 ≡ n = cc in omega arith

at_Equal : (e n : ℕ) (m : Mark) → mark_of 61 61 e ≡ kinds.Mark m n → 2 ≤ n + 1
unfolding mark_of
at_Equal e n m h = longer (eqb e 61) n m marks.Identical marks.Equal h

at_Identical : (n : ℕ) (m : Mark) → mark_of 61 61 61 ≡ kinds.Mark m n → 3 ≤ n + 1
unfolding mark_of
at_Identical n m h = let k : 2 ≡ n = cc in omega arith

at_NotEqual : (e n : ℕ) (m : Mark) → mark_of 33 61 e ≡ kinds.Mark m n → 2 ≤ n + 1
unfolding mark_of
at_NotEqual e n m h = longer (eqb e 61) n m marks.NotIdentical marks.NotEqual h

at_NotIdentical : (n : ℕ) (m : Mark) → mark_of 33 61 61 ≡ kinds.Mark m n → 3 ≤ n + 1
unfolding mark_of
at_NotIdentical n m h = let k : 2 ≡ n = cc in omega arith

-- no mark that begins the text is longer
pub no_longer : (c d e n : ℕ) (m k : Mark) → mark_of c d e ≡ kinds.Mark m n → take (length (mark_text k)) (c ∷ d ∷ e ∷ []) ≡ mark_text k → length (mark_text k) ≤ n + 1
no_longer c d e n m marks.OpenRound h i = omega arith
no_longer c d e n m marks.CloseRound h i = omega arith
no_longer c d e n m marks.OpenSquare h i = omega arith
no_longer c d e n m marks.CloseSquare h i = omega arith
no_longer c d e n m marks.OpenCurly h i = omega arith
no_longer c d e n m marks.CloseCurly h i = omega arith
no_longer c d e n m marks.Comma h i = omega arith
no_longer c d e n m marks.Dot h i = omega arith
no_longer c d e n m marks.At h i = omega arith
no_longer c d e n m marks.Question h i = omega arith
no_longer c d e n m marks.Colon h i = omega arith
no_longer c d e n m marks.DoubleColon h i =
    let c' : c ≡ 58 = cc in
    let d' : d ≡ 58 = cc in
    let h' : mark_of 58 d e ≡ kinds.Mark m n = subst (λ x. mark_of x d e ≡ kinds.Mark m n) c' h in
    at_DoubleColon e n m (subst (λ x. mark_of 58 x e ≡ kinds.Mark m n) d' h')
no_longer c d e n m marks.Assign h i = omega arith
no_longer c d e n m marks.Equal h i =
    let c' : c ≡ 61 = cc in
    let d' : d ≡ 61 = cc in
    let h' : mark_of 61 d e ≡ kinds.Mark m n = subst (λ x. mark_of x d e ≡ kinds.Mark m n) c' h in
    at_Equal e n m (subst (λ x. mark_of 61 x e ≡ kinds.Mark m n) d' h')
no_longer c d e n m marks.Identical h i =
    let c' : c ≡ 61 = cc in
    let d' : d ≡ 61 = cc in
    let e' : e ≡ 61 = cc in
    let h' : mark_of 61 d e ≡ kinds.Mark m n = subst (λ x. mark_of x d e ≡ kinds.Mark m n) c' h in
    let h'' : mark_of 61 61 e ≡ kinds.Mark m n = subst (λ x. mark_of 61 x e ≡ kinds.Mark m n) d' h' in
    at_Identical n m (subst (λ x. mark_of 61 61 x ≡ kinds.Mark m n) e' h'')
no_longer c d e n m marks.Not h i = omega arith
no_longer c d e n m marks.NotNull h i =
    let c' : c ≡ 33 = cc in
    let d' : d ≡ 33 = cc in
    let h' : mark_of 33 d e ≡ kinds.Mark m n = subst (λ x. mark_of x d e ≡ kinds.Mark m n) c' h in
    at_NotNull e n m (subst (λ x. mark_of 33 x e ≡ kinds.Mark m n) d' h')
no_longer c d e n m marks.NotEqual h i =
    let c' : c ≡ 33 = cc in
    let d' : d ≡ 61 = cc in
    let h' : mark_of 33 d e ≡ kinds.Mark m n = subst (λ x. mark_of x d e ≡ kinds.Mark m n) c' h in
    at_NotEqual e n m (subst (λ x. mark_of 33 x e ≡ kinds.Mark m n) d' h')
no_longer c d e n m marks.NotIdentical h i =
    let c' : c ≡ 33 = cc in
    let d' : d ≡ 61 = cc in
    let e' : e ≡ 61 = cc in
    let h' : mark_of 33 d e ≡ kinds.Mark m n = subst (λ x. mark_of x d e ≡ kinds.Mark m n) c' h in
    let h'' : mark_of 33 61 e ≡ kinds.Mark m n = subst (λ x. mark_of 33 x e ≡ kinds.Mark m n) d' h' in
    at_NotIdentical n m (subst (λ x. mark_of 33 61 x ≡ kinds.Mark m n) e' h'')
no_longer c d e n m marks.Plus h i = omega arith
no_longer c d e n m marks.PlusPlus h i =
    let c' : c ≡ 43 = cc in
    let d' : d ≡ 43 = cc in
    let h' : mark_of 43 d e ≡ kinds.Mark m n = subst (λ x. mark_of x d e ≡ kinds.Mark m n) c' h in
    at_PlusPlus e n m (subst (λ x. mark_of 43 x e ≡ kinds.Mark m n) d' h')
no_longer c d e n m marks.Minus h i = omega arith
no_longer c d e n m marks.MinusMinus h i =
    let c' : c ≡ 45 = cc in
    let d' : d ≡ 45 = cc in
    let h' : mark_of 45 d e ≡ kinds.Mark m n = subst (λ x. mark_of x d e ≡ kinds.Mark m n) c' h in
    at_MinusMinus e n m (subst (λ x. mark_of 45 x e ≡ kinds.Mark m n) d' h')
no_longer c d e n m marks.Arrow h i =
    let c' : c ≡ 45 = cc in
    let d' : d ≡ 62 = cc in
    let h' : mark_of 45 d e ≡ kinds.Mark m n = subst (λ x. mark_of x d e ≡ kinds.Mark m n) c' h in
    at_Arrow e n m (subst (λ x. mark_of 45 x e ≡ kinds.Mark m n) d' h')
no_longer c d e n m marks.Star h i = omega arith
no_longer c d e n m marks.Slash h i = omega arith
no_longer c d e n m marks.Percent h i = omega arith
no_longer c d e n m marks.AndAnd h i =
    let c' : c ≡ 38 = cc in
    let d' : d ≡ 38 = cc in
    let h' : mark_of 38 d e ≡ kinds.Mark m n = subst (λ x. mark_of x d e ≡ kinds.Mark m n) c' h in
    at_AndAnd e n m (subst (λ x. mark_of 38 x e ≡ kinds.Mark m n) d' h')
no_longer c d e n m marks.OrOr h i =
    let c' : c ≡ 124 = cc in
    let d' : d ≡ 124 = cc in
    let h' : mark_of 124 d e ≡ kinds.Mark m n = subst (λ x. mark_of x d e ≡ kinds.Mark m n) c' h in
    at_OrOr e n m (subst (λ x. mark_of 124 x e ≡ kinds.Mark m n) d' h')
no_longer c d e n m marks.Less h i = omega arith
no_longer c d e n m marks.LessEqual h i =
    let c' : c ≡ 60 = cc in
    let d' : d ≡ 61 = cc in
    let h' : mark_of 60 d e ≡ kinds.Mark m n = subst (λ x. mark_of x d e ≡ kinds.Mark m n) c' h in
    at_LessEqual e n m (subst (λ x. mark_of 60 x e ≡ kinds.Mark m n) d' h')
no_longer c d e n m marks.Greater h i = omega arith
no_longer c d e n m marks.GreaterEqual h i =
    let c' : c ≡ 62 = cc in
    let d' : d ≡ 61 = cc in
    let h' : mark_of 62 d e ≡ kinds.Mark m n = subst (λ x. mark_of x d e ≡ kinds.Mark m n) c' h in
    at_GreaterEqual e n m (subst (λ x. mark_of 62 x e ≡ kinds.Mark m n) d' h')

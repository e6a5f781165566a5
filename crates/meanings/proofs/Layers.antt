-- Expressions form by form: what each function of them gives at a form, and induction over them.
use Rattle.std.proofs.Common.{◌≡◌, ℕ, pos, negsuc, Bool, true, false, ◌&&◌, List, Option, refl, sym, ap, ◌∙◌, subst}
use Rattle.meanings.specs.declared.operators.Operator.{Operator}
use Rattle.java_tree.specs.declared.tokens.Position.{Position}
use Rattle.j2k_base.specs.declared.constants.Const.TheVariants as const
use Rattle.j2k_base.specs.declared.constants.Value.{Value as Constant}
use Rattle.j2k_base.specs.declared.constants.Value.TheVariants as constant
use Rattle.j2k_base.specs.declared.constants.Op2.{Op2}
use Rattle.java_typed.specs.declared.types.TType.{TType}
use Rattle.java_typed.specs.declared.exprs.TExpr.{TExpr, roll-TExpr, out-roll-TExpr, map-TExpr, fold-roll-TExpr, ind-TExpr, every-TExpr, every_here-TExpr, every_held-TExpr}
use Rattle.java_typed.specs.declared.exprs.TExpr.TheOpen.{TExpr-F}
use Rattle.meanings.specs.declared.kotlin.KExpr.{KExpr, roll-KExpr, out-roll-KExpr, map-KExpr, fold-roll-KExpr, ind-KExpr, para-roll-KExpr, every-KExpr, every_here-KExpr, every_held-KExpr, every_made-KExpr}
use Rattle.meanings.specs.declared.kotlin.KExpr.TheOpen.{KExpr-F}
use Rattle.meanings.specs.declared.kotlin.KExpr.TheVariants as ke
use Rattle.meanings.specs.Values.{Name, Value}
use Rattle.meanings.specs.Outcome.{Meaning}
use Rattle.meanings.specs.Machine.{Place}
use Rattle.meanings.specs.Static.{KType, Static, type_by, type_of}
use Rattle.meanings.specs.Taken.{is_number, is_operator, operator_of, is_taken_by, is_taken}
use Rattle.meanings.specs.Java.{java_by, java_expr}
use Rattle.meanings.specs.Kotlin.{Doing, kotlin_by, kotlin_expr}
use Rattle.meanings.specs.Convert.{number_of, expression_by, expression_of}
use Rattle.meanings.specs.KText.{expression_by as text_by, expression_text}
use Rattle.meanings.specs.JNamed.{level_by as java_level_by, level_of as java_level_of}
use Rattle.meanings.specs.KSpells.{level_by, level_of}

-- ---- Java

abbrev pub t_local : Name → Position → TType → TExpr
t_local name at k = roll-TExpr (TExpr-F.Local name at k)

abbrev pub t_number : ℕ → Position → TExpr
t_number n at = roll-TExpr (TExpr-F.Literal (constant.Number (const.Int (pos n))) at)

abbrev pub t_paren : Position → TExpr → TExpr
t_paren at e = roll-TExpr (TExpr-F.Paren at e)

abbrev pub t_binary : TExpr → Op2 → Position → TExpr → TExpr
t_binary a o at b = roll-TExpr (TExpr-F.Binary a o at b)

-- a fact of every expression that is taken, from each form and its parts
pub record TCases (P : TExpr → Type 0) : Type 0 where
  pub local : (name : Name) (at : Position) (k : TType) → P (t_local name at k)
  pub number : (n : ℕ) (at : Position) → P (t_number n at)
  pub paren : (at : Position) (e : TExpr) → P e → P (t_paren at e)
  pub binary : (a : TExpr) (o : Op2) (at : Position) (b : TExpr) → is_operator o ≡ true → P a → P b → P (t_binary a o at b)

is_taken_at : (x : TExpr-F TExpr) → is_taken (roll-TExpr x) ≡ is_taken_by (map-TExpr TExpr Bool is_taken x)
unfolding is_taken
is_taken_at x = fold-roll-TExpr Bool is_taken_by x

none_is : {A : Type 0} → false ≡ true → A
none_is h = absurd (cc h)

pub both_are : (b c : Bool) → (b && c) ≡ true → (b ≡ true) × (c ≡ true)
both_are true true h = (refl, refl)
both_are true false h = cc
both_are false c h = cc

module _ (P : TExpr → Type 0) (c : TCases P) where
  abbrev Case : Type 0
  Case = (e : TExpr) × (is_taken e ≡ true → P e)

  number_case : (v : Constant) (at : Position) → is_number v ≡ true → P (roll-TExpr (TExpr-F.Literal v at))
  number_case (constant.Number (const.Int (pos n))) at h = c.number n at
  number_case (constant.Number (const.Int (negsuc n))) at h = none_is h
  number_case (constant.Number (const.Byte n)) at h = none_is h
  number_case (constant.Number (const.Short n)) at h = none_is h
  number_case (constant.Number (const.Char n)) at h = none_is h
  number_case (constant.Number (const.Long n)) at h = none_is h
  number_case (constant.Number (const.Bool b)) at h = none_is h
  number_case (constant.Text units) at h = none_is h

  taken_case : (y : TExpr-F Case) → is_taken_by (map-TExpr TExpr Bool is_taken (map-TExpr Case TExpr (λ e. e.0) y)) ≡ true → P (roll-TExpr (map-TExpr Case TExpr (λ e. e.0) y))
  taken_case (TExpr-F.Literal v at) h = number_case v at h
  taken_case (TExpr-F.Local name at k) h = c.local name at k
  taken_case (TExpr-F.Paren at e) h = c.paren at e.0 (e.1 h)
  taken_case (TExpr-F.Binary a o at b) h =
      let first = both_are (is_operator o) (is_taken a.0 && is_taken b.0) h in
      let operands = both_are (is_taken a.0) (is_taken b.0) first.1 in
      c.binary a.0 o at b.0 first.0 (a.1 operands.0) (b.1 operands.1)
  taken_case (TExpr-F.Null at) h = none_is h
  taken_case (TExpr-F.Constant v inner) h = none_is h
  taken_case (TExpr-F.This at is_written k) h = none_is h
  taken_case (TExpr-F.Static first member at k) h = none_is h
  taken_case (TExpr-F.Field object member at k) h = none_is h
  taken_case (TExpr-F.Length array at) h = none_is h
  taken_case (TExpr-F.Element array index k) h = none_is h
  taken_case (TExpr-F.StaticCall first member at arguments k) h = none_is h
  taken_case (TExpr-F.VirtualCall object member at arguments k) h = none_is h
  taken_case (TExpr-F.ExactCall object is_super member at arguments k) h = none_is h
  taken_case (TExpr-F.Through object inner) h = none_is h
  taken_case (TExpr-F.Step is_prefix o at target k) h = none_is h
  taken_case (TExpr-F.Unary o at inner) h = none_is h
  taken_case (TExpr-F.Concat left at right) h = none_is h
  taken_case (TExpr-F.Same left is_equal at right) h = none_is h
  taken_case (TExpr-F.Instanceof inner at k) h = none_is h
  taken_case (TExpr-F.Cast at k inner) h = none_is h
  taken_case (TExpr-F.Convert c inner) h = none_is h
  taken_case (TExpr-F.Conditional test one other k) h = none_is h
  taken_case (TExpr-F.Assign target at e) h = none_is h
  taken_case (TExpr-F.Compound target o k at e) h = none_is h
  taken_case (TExpr-F.Append target at e) h = none_is h
  taken_case (TExpr-F.Lambda lambda inner) h = none_is h
  taken_case (TExpr-F.LambdaBlock lambda number) h = none_is h
  taken_case (TExpr-F.New at k member arguments body) h = none_is h
  taken_case (TExpr-F.NewArray at k size) h = none_is h
  taken_case (TExpr-F.NewFilled at k elements) h = none_is h

pub java_induct : (P : TExpr → Type 0) → TCases P → (e : TExpr) → is_taken e ≡ true → P e
java_induct P c = ind-TExpr (λ e. is_taken e ≡ true → P e) (λ x y is.
    subst (λ (z : TExpr-F TExpr). is_taken (roll-TExpr z) ≡ true → P (roll-TExpr z)) is
    (λ h. taken_case P c y (sym (is_taken_at (map-TExpr ((e : TExpr) × (is_taken e ≡ true → P e)) TExpr (λ e. e.0) y)) ∙ h)))

pub java_at : (p : Place) (x : TExpr-F TExpr) → java_expr p (roll-TExpr x) ≡ java_by p (map-TExpr TExpr (Meaning Value) (java_expr p) x)
unfolding java_expr
java_at p x = fold-roll-TExpr (Meaning Value) (java_by p) x

converted_at : (x : TExpr-F TExpr) → expression_of (roll-TExpr x) ≡ expression_by (map-TExpr TExpr KExpr expression_of x)
unfolding expression_of
converted_at x = fold-roll-TExpr KExpr expression_by x

pub java_level_at : (x : TExpr-F TExpr) → java_level_of (roll-TExpr x) ≡ java_level_by x
unfolding java_level_of
java_level_at x = ap java_level_by (out-roll-TExpr x)

module _ (Q : TExpr-F TExpr → Type 0) where
  pub java_here : (x : TExpr-F TExpr) → every-TExpr Q (roll-TExpr x) → Q x
  java_here x h = subst Q (out-roll-TExpr x) (every_here-TExpr Q (roll-TExpr x) h)

  abbrev Held : Type 0
  Held = (f : TExpr) × every-TExpr Q f

  held_paren : (paren_at : Position) (e : TExpr) (y : TExpr-F Held) → map-TExpr Held TExpr (λ f. f.0) y ≡ TExpr-F.Paren paren_at e → every-TExpr Q e
  held_paren paren_at e (TExpr-F.Paren at f) is = let same : f.0 ≡ e = cc in subst (every-TExpr Q) same f.1
  held_paren paren_at e (TExpr-F.Literal v at) is = absurd (cc is)
  held_paren paren_at e (TExpr-F.Local name at k) is = absurd (cc is)
  held_paren paren_at e (TExpr-F.Binary left o at right) is = absurd (cc is)
  held_paren paren_at e (TExpr-F.Null at) is = absurd (cc is)
  held_paren paren_at e (TExpr-F.Constant v inner) is = absurd (cc is)
  held_paren paren_at e (TExpr-F.This at is_written k) is = absurd (cc is)
  held_paren paren_at e (TExpr-F.Static first member at k) is = absurd (cc is)
  held_paren paren_at e (TExpr-F.Field object member at k) is = absurd (cc is)
  held_paren paren_at e (TExpr-F.Length array at) is = absurd (cc is)
  held_paren paren_at e (TExpr-F.Element array index k) is = absurd (cc is)
  held_paren paren_at e (TExpr-F.StaticCall first member at arguments k) is = absurd (cc is)
  held_paren paren_at e (TExpr-F.VirtualCall object member at arguments k) is = absurd (cc is)
  held_paren paren_at e (TExpr-F.ExactCall object is_super member at arguments k) is = absurd (cc is)
  held_paren paren_at e (TExpr-F.Through object inner) is = absurd (cc is)
  held_paren paren_at e (TExpr-F.Step is_prefix o at target k) is = absurd (cc is)
  held_paren paren_at e (TExpr-F.Unary o at inner) is = absurd (cc is)
  held_paren paren_at e (TExpr-F.Concat left at right) is = absurd (cc is)
  held_paren paren_at e (TExpr-F.Same left is_equal at right) is = absurd (cc is)
  held_paren paren_at e (TExpr-F.Instanceof inner at k) is = absurd (cc is)
  held_paren paren_at e (TExpr-F.Cast at k inner) is = absurd (cc is)
  held_paren paren_at e (TExpr-F.Convert c inner) is = absurd (cc is)
  held_paren paren_at e (TExpr-F.Conditional test one other k) is = absurd (cc is)
  held_paren paren_at e (TExpr-F.Assign target at v) is = absurd (cc is)
  held_paren paren_at e (TExpr-F.Compound target o k at v) is = absurd (cc is)
  held_paren paren_at e (TExpr-F.Append target at v) is = absurd (cc is)
  held_paren paren_at e (TExpr-F.Lambda lambda inner) is = absurd (cc is)
  held_paren paren_at e (TExpr-F.LambdaBlock lambda number) is = absurd (cc is)
  held_paren paren_at e (TExpr-F.New at k member arguments body) is = absurd (cc is)
  held_paren paren_at e (TExpr-F.NewArray at k size) is = absurd (cc is)
  held_paren paren_at e (TExpr-F.NewFilled at k elements) is = absurd (cc is)

  held_binary : (a b : TExpr) (operator : Op2) (binary_at : Position) (y : TExpr-F Held) → map-TExpr Held TExpr (λ f. f.0) y ≡ TExpr-F.Binary a operator binary_at b → every-TExpr Q a × every-TExpr Q b
  held_binary a b operator binary_at (TExpr-F.Binary c o at d) is =
      let left : c.0 ≡ a = cc in
      let right : d.0 ≡ b = cc in
      (subst (every-TExpr Q) left c.1, subst (every-TExpr Q) right d.1)
  held_binary a b operator binary_at (TExpr-F.Literal v at) is = absurd (cc is)
  held_binary a b operator binary_at (TExpr-F.Local name at k) is = absurd (cc is)
  held_binary a b operator binary_at (TExpr-F.Paren at inner) is = absurd (cc is)
  held_binary a b operator binary_at (TExpr-F.Null at) is = absurd (cc is)
  held_binary a b operator binary_at (TExpr-F.Constant v inner) is = absurd (cc is)
  held_binary a b operator binary_at (TExpr-F.This at is_written k) is = absurd (cc is)
  held_binary a b operator binary_at (TExpr-F.Static first member at k) is = absurd (cc is)
  held_binary a b operator binary_at (TExpr-F.Field object member at k) is = absurd (cc is)
  held_binary a b operator binary_at (TExpr-F.Length array at) is = absurd (cc is)
  held_binary a b operator binary_at (TExpr-F.Element array index k) is = absurd (cc is)
  held_binary a b operator binary_at (TExpr-F.StaticCall first member at arguments k) is = absurd (cc is)
  held_binary a b operator binary_at (TExpr-F.VirtualCall object member at arguments k) is = absurd (cc is)
  held_binary a b operator binary_at (TExpr-F.ExactCall object is_super member at arguments k) is = absurd (cc is)
  held_binary a b operator binary_at (TExpr-F.Through object inner) is = absurd (cc is)
  held_binary a b operator binary_at (TExpr-F.Step is_prefix o at target k) is = absurd (cc is)
  held_binary a b operator binary_at (TExpr-F.Unary o at inner) is = absurd (cc is)
  held_binary a b operator binary_at (TExpr-F.Concat left at right) is = absurd (cc is)
  held_binary a b operator binary_at (TExpr-F.Same left is_equal at right) is = absurd (cc is)
  held_binary a b operator binary_at (TExpr-F.Instanceof inner at k) is = absurd (cc is)
  held_binary a b operator binary_at (TExpr-F.Cast at k inner) is = absurd (cc is)
  held_binary a b operator binary_at (TExpr-F.Convert c inner) is = absurd (cc is)
  held_binary a b operator binary_at (TExpr-F.Conditional test one other k) is = absurd (cc is)
  held_binary a b operator binary_at (TExpr-F.Assign target at e) is = absurd (cc is)
  held_binary a b operator binary_at (TExpr-F.Compound target o k at e) is = absurd (cc is)
  held_binary a b operator binary_at (TExpr-F.Append target at e) is = absurd (cc is)
  held_binary a b operator binary_at (TExpr-F.Lambda lambda inner) is = absurd (cc is)
  held_binary a b operator binary_at (TExpr-F.LambdaBlock lambda number) is = absurd (cc is)
  held_binary a b operator binary_at (TExpr-F.New at k member arguments body) is = absurd (cc is)
  held_binary a b operator binary_at (TExpr-F.NewArray at k size) is = absurd (cc is)
  held_binary a b operator binary_at (TExpr-F.NewFilled at k elements) is = absurd (cc is)

  pub java_in_paren : (at : Position) (e : TExpr) → every-TExpr Q (t_paren at e) → every-TExpr Q e
  java_in_paren at e h = let held = every_held-TExpr Q (t_paren at e) h in held_paren at e held.0 (held.1 ∙ out-roll-TExpr (TExpr-F.Paren at e))

  pub java_in_binary : (a b : TExpr) (o : Op2) (at : Position) → every-TExpr Q (t_binary a o at b) → every-TExpr Q a × every-TExpr Q b
  java_in_binary a b o at h = let held = every_held-TExpr Q (t_binary a o at b) h in held_binary a b o at held.0 (held.1 ∙ out-roll-TExpr (TExpr-F.Binary a o at b))

-- ---- Kotlin

abbrev pub k_local : Name → KExpr
k_local name = roll-KExpr (KExpr-F.Local name)

abbrev pub k_number : ℕ → KExpr
k_number n = roll-KExpr (KExpr-F.Number n)

abbrev pub k_paren : KExpr → KExpr
k_paren e = roll-KExpr (KExpr-F.Paren e)

abbrev pub k_binary : KExpr → Operator → KExpr → KExpr
k_binary a operator b = roll-KExpr (KExpr-F.Binary a operator b)

-- a fact of every expression, from each form and its parts
pub record KCases (P : KExpr → Type 0) : Type 0 where
  pub local : (name : Name) → P (k_local name)
  pub number : (n : ℕ) → P (k_number n)
  pub paren : (e : KExpr) → P e → P (k_paren e)
  pub binary : (a : KExpr) (operator : Operator) (b : KExpr) → P a → P b → P (k_binary a operator b)

kotlin_case : (P : KExpr → Type 0) → KCases P → (y : KExpr-F ((e : KExpr) × P e)) → P (roll-KExpr (map-KExpr ((e : KExpr) × P e) KExpr (λ e. e.0) y))
kotlin_case P c (KExpr-F.Local name) = c.local name
kotlin_case P c (KExpr-F.Number n) = c.number n
kotlin_case P c (KExpr-F.Paren e) = c.paren e.0 e.1
kotlin_case P c (KExpr-F.Binary a operator b) = c.binary a.0 operator b.0 a.1 b.1

pub kotlin_induct : (P : KExpr → Type 0) → KCases P → (e : KExpr) → P e
kotlin_induct P c = ind-KExpr P (λ x y is. subst (λ (z : KExpr-F KExpr). P (roll-KExpr z)) is (kotlin_case P c y))

-- the Kotlin of each form
abbrev pub layer_of : TExpr-F TExpr → KExpr-F KExpr
layer_of (TExpr-F.Literal v at) = KExpr-F.Number (number_of v)
layer_of (TExpr-F.Local name at k) = KExpr-F.Local name
layer_of (TExpr-F.Paren at e) = KExpr-F.Paren (expression_of e)
layer_of (TExpr-F.Binary a o at b) = KExpr-F.Binary (expression_of a) (operator_of o) (expression_of b)
layer_of _ = KExpr-F.Number 0

rolled : (x : TExpr-F TExpr) → expression_by (map-TExpr TExpr KExpr expression_of x) ≡ roll-KExpr (layer_of x)
rolled (TExpr-F.Literal v at) = sym (ke.rolls-Number (number_of v))
rolled (TExpr-F.Local name at k) = sym (ke.rolls-Local name)
rolled (TExpr-F.Paren at e) = sym (ke.rolls-Paren (expression_of e))
rolled (TExpr-F.Binary a o at b) = sym (ke.rolls-Binary (expression_of a) (operator_of o) (expression_of b))
rolled (TExpr-F.Null at) = sym (ke.rolls-Number 0)
rolled (TExpr-F.Constant v inner) = sym (ke.rolls-Number 0)
rolled (TExpr-F.This at is_written k) = sym (ke.rolls-Number 0)
rolled (TExpr-F.Static first member at k) = sym (ke.rolls-Number 0)
rolled (TExpr-F.Field object member at k) = sym (ke.rolls-Number 0)
rolled (TExpr-F.Length array at) = sym (ke.rolls-Number 0)
rolled (TExpr-F.Element array index k) = sym (ke.rolls-Number 0)
rolled (TExpr-F.StaticCall first member at arguments k) = sym (ke.rolls-Number 0)
rolled (TExpr-F.VirtualCall object member at arguments k) = sym (ke.rolls-Number 0)
rolled (TExpr-F.ExactCall object is_super member at arguments k) = sym (ke.rolls-Number 0)
rolled (TExpr-F.Through object inner) = sym (ke.rolls-Number 0)
rolled (TExpr-F.Step is_prefix o at target k) = sym (ke.rolls-Number 0)
rolled (TExpr-F.Unary o at inner) = sym (ke.rolls-Number 0)
rolled (TExpr-F.Concat left at right) = sym (ke.rolls-Number 0)
rolled (TExpr-F.Same left is_equal at right) = sym (ke.rolls-Number 0)
rolled (TExpr-F.Instanceof inner at k) = sym (ke.rolls-Number 0)
rolled (TExpr-F.Cast at k inner) = sym (ke.rolls-Number 0)
rolled (TExpr-F.Convert c inner) = sym (ke.rolls-Number 0)
rolled (TExpr-F.Conditional test one other k) = sym (ke.rolls-Number 0)
rolled (TExpr-F.Assign target at e) = sym (ke.rolls-Number 0)
rolled (TExpr-F.Compound target o k at e) = sym (ke.rolls-Number 0)
rolled (TExpr-F.Append target at e) = sym (ke.rolls-Number 0)
rolled (TExpr-F.Lambda lambda inner) = sym (ke.rolls-Number 0)
rolled (TExpr-F.LambdaBlock lambda number) = sym (ke.rolls-Number 0)
rolled (TExpr-F.New at k member arguments body) = sym (ke.rolls-Number 0)
rolled (TExpr-F.NewArray at k size) = sym (ke.rolls-Number 0)
rolled (TExpr-F.NewFilled at k elements) = sym (ke.rolls-Number 0)

pub convert_at : (x : TExpr-F TExpr) → expression_of (roll-TExpr x) ≡ roll-KExpr (layer_of x)
convert_at x = converted_at x ∙ rolled x

pub kotlin_at : (x : KExpr-F KExpr) → kotlin_expr (roll-KExpr x) ≡ kotlin_by (map-KExpr KExpr (KExpr × Doing Value) (λ y. (y, kotlin_expr y)) x)
unfolding kotlin_expr
kotlin_at x = para-roll-KExpr (Doing Value) kotlin_by x

pub type_at : (x : KExpr-F KExpr) → type_of (roll-KExpr x) ≡ type_by (map-KExpr KExpr (KExpr × (Static → Option KType)) (λ y. (y, type_of y)) x)
unfolding type_of
type_at x = para-roll-KExpr (Static → Option KType) type_by x

pub text_at : (x : KExpr-F KExpr) → expression_text (roll-KExpr x) ≡ text_by (map-KExpr KExpr (List ℕ) expression_text x)
unfolding expression_text
text_at x = fold-roll-KExpr (List ℕ) text_by x

pub level_at : (x : KExpr-F KExpr) → level_of (roll-KExpr x) ≡ level_by x
unfolding level_of
level_at x = ap level_by (out-roll-KExpr x)

module _ (Q : KExpr-F KExpr → Type 0) where
  pub here : (x : KExpr-F KExpr) → every-KExpr Q (roll-KExpr x) → Q x
  here x h = subst Q (out-roll-KExpr x) (every_here-KExpr Q (roll-KExpr x) h)

  inner_held : (e : KExpr) (y : KExpr-F ((f : KExpr) × every-KExpr Q f)) → map-KExpr ((f : KExpr) × every-KExpr Q f) KExpr (λ f. f.0) y ≡ KExpr-F.Paren e → every-KExpr Q e
  inner_held e (KExpr-F.Local name) is = absurd (cc is)
  inner_held e (KExpr-F.Number n) is = absurd (cc is)
  inner_held e (KExpr-F.Paren f) is = let same : f.0 ≡ e = cc in subst (every-KExpr Q) same f.1
  inner_held e (KExpr-F.Binary c o d) is = absurd (cc is)

  operands_held : (a b : KExpr) (operator : Operator) (y : KExpr-F ((f : KExpr) × every-KExpr Q f)) → map-KExpr ((f : KExpr) × every-KExpr Q f) KExpr (λ f. f.0) y ≡ KExpr-F.Binary a operator b → every-KExpr Q a × every-KExpr Q b
  operands_held a b operator (KExpr-F.Local name) is = absurd (cc is)
  operands_held a b operator (KExpr-F.Number n) is = absurd (cc is)
  operands_held a b operator (KExpr-F.Paren f) is = absurd (cc is)
  operands_held a b operator (KExpr-F.Binary c o d) is =
      let left : c.0 ≡ a = cc in
      let right : d.0 ≡ b = cc in
      (subst (every-KExpr Q) left c.1, subst (every-KExpr Q) right d.1)

  pub in_paren : (e : KExpr) → every-KExpr Q (k_paren e) → every-KExpr Q e
  in_paren e h = let held = every_held-KExpr Q (k_paren e) h in inner_held e held.0 (held.1 ∙ out-roll-KExpr (KExpr-F.Paren e))

  pub in_binary : (a b : KExpr) (operator : Operator) → every-KExpr Q (k_binary a operator b) → every-KExpr Q a × every-KExpr Q b
  in_binary a b operator h = let held = every_held-KExpr Q (k_binary a operator b) h in operands_held a b operator held.0 (held.1 ∙ out-roll-KExpr (KExpr-F.Binary a operator b))

  pub every_local : (name : Name) → Q (KExpr-F.Local name) → every-KExpr Q (k_local name)
  every_local name h = every_made-KExpr Q (KExpr-F.Local name) (KExpr-F.Local name) refl h

  pub every_number : (n : ℕ) → Q (KExpr-F.Number n) → every-KExpr Q (k_number n)
  every_number n h = every_made-KExpr Q (KExpr-F.Number n) (KExpr-F.Number n) refl h

  pub every_paren : (e : KExpr) → Q (KExpr-F.Paren e) → every-KExpr Q e → every-KExpr Q (k_paren e)
  every_paren e h all = every_made-KExpr Q (KExpr-F.Paren e) (KExpr-F.Paren (e, all)) refl h

  pub every_binary : (a b : KExpr) (operator : Operator) → Q (KExpr-F.Binary a operator b) → every-KExpr Q a → every-KExpr Q b → every-KExpr Q (k_binary a operator b)
  every_binary a b operator h left right = every_made-KExpr Q (KExpr-F.Binary a operator b) (KExpr-F.Binary (a, left) operator (b, right)) refl h

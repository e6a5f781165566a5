-- An expression that is taken knows its names, and its names, numbers and operands are those of both languages.
use Rattle.std.proofs.Common.{◌≡◌, ◌<◌, ◌≤◌, ◌+◌, ◌^◌, ◌⊎◌, inl, inr, ℕ, zero, suc, pos, Bool, true, false, cond, ◌&&◌, not, List, [], ◌∷◌, length, Some, refl, sym, ◌∙◌, ap, subst, arith}
use Rattle.std.specs.Prelude.{◌==◌, nat_le}
use Rattle.std.specs.List.{list_all}
use Rattle.std.proofs.lemmas.Bool.Decides.{nat_tests}
use Rattle.java_tree.specs.declared.tokens.Position.{Position}
use Rattle.java_tree.specs.declared.exprs.JLiteral.{JLiteral}
use Rattle.java_tree.specs.declared.exprs.JLiteral.TheVariants as literal
use Rattle.java_tree.specs.declared.exprs.BinaryOp.{BinaryOp}
use Rattle.java_tree.specs.declared.exprs.BinaryOp.TheVariants as op
use Rattle.java_tree.specs.declared.exprs.JExpr.{JExpr, out-JExpr, map-JExpr}
use Rattle.java_tree.specs.declared.exprs.JExpr.TheOpen.{JExpr-F}
use Rattle.java_tree.specs.Trees.{level as java_level, any_level, top, top_by, TypeStands, TypedStands, Stands, stands_by}
use Rattle.j2k_base.specs.declared.constants.Const.TheVariants as const
use Rattle.j2k_base.specs.declared.constants.Kind.TheVariants.{Int}
use Rattle.j2k_base.specs.declared.constants.Op2.{Op2}
use Rattle.j2k_base.specs.declared.constants.Op2.TheVariants as op2
use Rattle.j2k_base.specs.declared.constants.Value.TheVariants as value
use Rattle.java_typed.specs.declared.types.TType.{TType, out-roll-TType}
use Rattle.java_typed.specs.declared.types.TType.TheOpen.{TType-F}
use Rattle.java_typed.specs.declared.types.TType.TheVariants as ty
use Rattle.java_typed.specs.declared.exprs.TExpr.{TExpr, roll-TExpr, out-roll-TExpr, map-TExpr, fold-roll-TExpr, every-TExpr, every_made-TExpr}
use Rattle.java_typed.specs.declared.exprs.TExpr.TheOpen.{TExpr-F}
use Rattle.java_typed.specs.declared.exprs.TExpr.TheVariants as t
use Rattle.meanings.specs.Taken.{is_int_by, is_int, is_operator, operator_of as spelled, is_taken_by, is_taken}
use Rattle.meanings.specs.Levels.{level}
use Rattle.meanings.specs.Values.{is_among}
use Rattle.meanings.specs.KSpells.{may_stand, IsName}
use Rattle.meanings.specs.JTyped.{known_by, Knows}
use Rattle.meanings.specs.JNamed.{named_by, level_by, level_of, IsNamed}
use Rattle.java_taken.specs.Judged.{Judged, ◌>>=◌}
use Rattle.java_taken.specs.Names.{is_identifier, contains_name}
use Rattle.java_taken.specs.Places.{first_at}
use Rattle.java_taken.specs.Expressions.{int_type, max_int, operator_of, is_number, local_of, number_of, paren_of, binary_of, operands, form_of, expression}
use Rattle.java_taken.proofs.Forms.{Part, beside, expression_out}

-- ---- what is typed

pub typed_is : {A : Type 0} (x y : A) → Judged.Typed x ≡ Judged.Typed y → x ≡ y
typed_is x y is = cc

pub bind_typed : {A B : Type 0} (j : Judged A) (f : A → Judged B) (y : B) → (j >>= f) ≡ Judged.Typed y → (x : A) × (j ≡ Judged.Typed x) × (f x ≡ Judged.Typed y)
bind_typed (Judged.Typed x) f y is = (x, refl, is)
bind_typed (Judged.Open at) f y is = absurd (cc is)

pub if_typed : {A : Type 0} (b : Bool) (j : Judged A) (at : Position) (x : A) → cond b j (Judged.Open at) ≡ Judged.Typed x → (b ≡ true) × (j ≡ Judged.Typed x)
if_typed true j at x is = (refl, is)
if_typed false j at x is = absurd (cc is)

unless_typed : {A : Type 0} (b : Bool) (j : Judged A) (at : Position) (x : A) → cond b (Judged.Open at) j ≡ Judged.Typed x → j ≡ Judged.Typed x
unless_typed true j at x is = absurd (cc is)
unless_typed false j at x is = is

pub both : (a b : Bool) → (a && b) ≡ true → (a ≡ true) × (b ≡ true)
both true true e = (refl, refl)
both true false e = cc
both false b e = cc

-- ---- names

pub identifier : (name : List ℕ) → is_identifier name ≡ true → IsName name
identifier [] is = cc
identifier (byte ∷ name) is = (both (not (length (byte ∷ name) == 0)) (list_all may_stand (byte ∷ name)) is).1

small : (n : ℕ) → nat_le n max_int ≡ true → n < 2 ^ 31
small n e = grind (arith, nat_tests)

-- the same locals, newest first and oldest first
abbrev pub SameLocals : List (List ℕ) → List (List ℕ) → Type 0
SameLocals locals names = (name : List ℕ) → is_among locals name ≡ contains_name names name

-- each of the names is an identifier
abbrev pub AreIdentifiers : List (List ℕ) → Type 0
AreIdentifiers names = (name : List ℕ) → contains_name names name ≡ true → is_identifier name ≡ true

-- ---- typed expressions, form by form

-- a literal of n
abbrev literal_of : ℕ → Position → TExpr
literal_of n at = t.Literal (value.Number (const.Int (pos n))) at

abbrev literal_form : ℕ → Position → TExpr-F TExpr
literal_form n at = TExpr-F.Literal (value.Number (const.Int (pos n))) at

module _ (Q : TExpr-F TExpr → Type 0) where
  every_local : (name : List ℕ) (at : Position) (k : TType) → Q (TExpr-F.Local name at k) → every-TExpr Q (t.Local name at k)
  every_local name at k h = subst (every-TExpr Q) (t.rolls-Local name at k) (every_made-TExpr Q (TExpr-F.Local name at k) (TExpr-F.Local name at k) refl h)

  every_number : (n : ℕ) (at : Position) → Q (literal_form n at) → every-TExpr Q (literal_of n at)
  every_number n at h = subst (every-TExpr Q) (t.rolls-Literal (value.Number (const.Int (pos n))) at) (every_made-TExpr Q (literal_form n at) (TExpr-F.Literal (value.Number (const.Int (pos n))) at) refl h)

  every_paren : (at : Position) (e : TExpr) → Q (TExpr-F.Paren at e) → every-TExpr Q e → every-TExpr Q (t.Paren at e)
  every_paren at e h all = subst (every-TExpr Q) (t.rolls-Paren at e) (every_made-TExpr Q (TExpr-F.Paren at e) (TExpr-F.Paren at (e, all)) refl h)

  every_binary : (a b : TExpr) (operator : Op2) (at : Position) → Q (TExpr-F.Binary a operator at b) → every-TExpr Q a → every-TExpr Q b → every-TExpr Q (t.Binary a operator at b)
  every_binary a b operator at h left right =
      subst (every-TExpr Q) (t.rolls-Binary a operator at b) (every_made-TExpr Q (TExpr-F.Binary a operator at b) (TExpr-F.Binary (a, left) operator at (b, right)) refl h)

-- ---- which are taken

taken_is : (x : TExpr-F TExpr) (e : TExpr) → roll-TExpr x ≡ e → is_taken e ≡ is_taken_by (map-TExpr TExpr Bool is_taken x)
unfolding is_taken
taken_is x e rolls = ap is_taken (sym rolls) ∙ fold-roll-TExpr Bool is_taken_by x

pub int_is : is_int int_type ≡ true
unfolding is_int
int_is = ap is_int (sym (ty.rolls-Number Int)) ∙ ap is_int_by (out-roll-TType (TType-F.Number Int))

all_true : (b c d : Bool) → b ≡ true → c ≡ true → d ≡ true → (b && (c && d)) ≡ true
all_true b c d h g f = rw (h, g, f) refl

level_is : (x : TExpr-F TExpr) (e : TExpr) → roll-TExpr x ≡ e → level_of e ≡ level_by x
unfolding level_of
level_is x e rolls = ap level_of (sym rolls) ∙ ap level_by (out-roll-TExpr x)

-- a form that stands at a level of the grammar, and its level in the typed tree
abbrev Level : ℕ → ℕ → Type 0
Level place found = ((place ≤ 16) × (found ≡ 2)) ⊎ (((place ≤ 12) × (found ≡ 0)) ⊎ ((place ≤ 13) × (found ≡ 1)))

behind_sum : (found : ℕ) → Level 13 found → 1 ≤ found
behind_sum found (inl h) = omega (arith, h.1)
behind_sum found (inr (inl h)) = absurd (omega (arith, h.0))
behind_sum found (inr (inr h)) = omega (arith, h.1)

behind_product : (found : ℕ) → Level 14 found → 2 ≤ found
behind_product found (inl h) = omega (arith, h.1)
behind_product found (inr (inl h)) = absurd (omega (arith, h.0))
behind_product found (inr (inr h)) = absurd (omega (arith, h.0))

pub record Good (locals : List (List ℕ)) (place : ℕ) (e : TExpr) : Type 0 where
  pub known : Knows locals e
  pub named : IsNamed e
  pub taken : is_taken e ≡ true
  pub level : Level place (level_of e)

module _ (locals names : List (List ℕ)) (same : SameLocals locals names) (identify : AreIdentifiers names) where
  good_local : (place : ℕ) → place ≤ 16 → (name : List ℕ) (at : Position) → contains_name names name ≡ true → Good locals place (t.Local name at int_type)
  unfolding Knows IsNamed
  good_local place low name at is = record {
    known = every_local (known_by locals) name at int_type (same name ∙ is);
    named = every_local named_by name at int_type (identifier name (identify name is));
    taken = taken_is (TExpr-F.Local name at int_type) (t.Local name at int_type) (t.rolls-Local name at int_type) ∙ int_is;
    level = inl (low, level_is (TExpr-F.Local name at int_type) (t.Local name at int_type) (t.rolls-Local name at int_type));
  }

  good_number : (place : ℕ) → place ≤ 16 → (n : ℕ) (at : Position) → nat_le n max_int ≡ true → Good locals place (literal_of n at)
  unfolding Knows IsNamed
  good_number place low n at is = record {
    known = every_number (known_by locals) n at tt;
    named = every_number named_by n at (small n is);
    taken = taken_is (literal_form n at) (literal_of n at) (t.rolls-Literal (value.Number (const.Int (pos n))) at);
    level = inl (low, level_is (literal_form n at) (literal_of n at) (t.rolls-Literal (value.Number (const.Int (pos n))) at));
  }

  good_paren : (place inside : ℕ) → place ≤ 16 → (at : Position) (e : TExpr) → Good locals inside e → Good locals place (t.Paren at e)
  unfolding Knows IsNamed
  good_paren place inside low at e good = record {
    known = every_paren (known_by locals) at e tt good.known;
    named = every_paren named_by at e tt good.named;
    taken = taken_is (TExpr-F.Paren at e) (t.Paren at e) (t.rolls-Paren at e) ∙ good.taken;
    level = inl (low, level_is (TExpr-F.Paren at e) (t.Paren at e) (t.rolls-Paren at e));
  }

  good_binary : (place left right : ℕ) (a b : TExpr) (operator : Op2) (operator_at : Position) → is_operator operator ≡ true → Good locals left a → Good locals right b
      → level (spelled operator) ≤ level_of a → level (spelled operator) + 1 ≤ level_of b → ((found : ℕ) → found ≡ level (spelled operator) → Level place found) → Good locals place (t.Binary a operator operator_at b)
  unfolding Knows IsNamed
  good_binary place left right a b operator operator_at is good also above higher at = record {
    known = every_binary (known_by locals) a b operator operator_at tt good.known also.known;
    named = every_binary named_by a b operator operator_at (above, higher) good.named also.named;
    taken = taken_is (TExpr-F.Binary a operator operator_at b) (t.Binary a operator operator_at b) (t.rolls-Binary a operator operator_at b) ∙ all_true (is_operator operator) (is_taken a) (is_taken b) is good.taken also.taken;
    level = at (level_of (t.Binary a operator operator_at b)) (level_is (TExpr-F.Binary a operator operator_at b) (t.Binary a operator operator_at b) (t.rolls-Binary a operator operator_at b));
  }

  -- ---- from the judged one

  typed_literal : (place : ℕ) (x : JLiteral) (at : Position) (e : TExpr) → place ≤ 16 → number_of x at ≡ Judged.Typed e → Good locals place e
  typed_literal place (literal.Integer n) at e low is =
      let parts = if_typed (nat_le n max_int) (Judged.Typed (literal_of n at)) at e is in
      subst (Good locals place) (typed_is _ _ parts.1) (good_number place low n at parts.0)
  typed_literal place literal.LeastInteger at e low is = absurd (cc is)
  typed_literal place (literal.Long n) at e low is = absurd (cc is)
  typed_literal place literal.LeastLong at e low is = absurd (cc is)
  typed_literal place (literal.Character n) at e low is = absurd (cc is)
  typed_literal place (literal.Text units) at e low is = absurd (cc is)
  typed_literal place literal.True at e low is = absurd (cc is)
  typed_literal place literal.False at e low is = absurd (cc is)
  typed_literal place literal.Null at e low is = absurd (cc is)

  module _ (d : ℕ) (inner : (place : ℕ) (x : JExpr) → Stands d place x → (e : TExpr) → expression names x ≡ Judged.Typed e → Good locals place e) where
    record Sides (l r : ℕ) (operator : Op2) (operator_at : Position) (e : TExpr) : Type 0 where
      left : TExpr
      right : TExpr
      is_left : Good locals l left
      is_right : Good locals r right
      whole : t.Binary left operator operator_at right ≡ e

    sides : (l r : ℕ) (operator : Op2) (at operator_at : Position) (x y : JExpr) (e : TExpr) → Stands d l x → Stands d r y → operands at (expression names x) (Some operator) operator_at (expression names y) ≡ Judged.Typed e → Sides l r operator operator_at e
    sides l r operator at operator_at x y e sx sy is =
        let first = bind_typed (expression names x) (λ a. expression names y >>= λ b. binary_of at a operator operator_at b) e is in
        let second = bind_typed (expression names y) (λ b. binary_of at first.0 operator operator_at b) e first.2 in
        let whole = unless_typed (is_number first.0 && is_number second.0) (Judged.Typed (t.Binary first.0 operator operator_at second.0)) at e second.2 in
        record {
          left = first.0;
          right = second.0;
          is_left = inner l x sx first.0 first.1;
          is_right = inner r y sy second.0 second.1;
          whole = typed_is _ _ whole;
        }

    sum_level : (place : ℕ) → place ≤ 12 → (found : ℕ) → found ≡ 0 → Level place found
    sum_level place low found is = inr (inl (low, is))

    product_level : (place : ℕ) → place ≤ 13 → (found : ℕ) → found ≡ 1 → Level place found
    product_level place low found is = inr (inr (low, is))

    typed_sum : (place : ℕ) (operator : Op2) (operator_at : Position) → is_operator operator ≡ true → level (spelled operator) ≡ 0 → place ≤ 12 → (e : TExpr) → Sides 12 13 operator operator_at e → Good locals place e
    typed_sum place operator operator_at is zero_level low e s =
        let higher : 1 ≤ level_of s.right = behind_sum (level_of s.right) s.is_right.level in
        subst (Good locals place) s.whole (good_binary place 12 13 s.left s.right operator operator_at is s.is_left s.is_right (omega (arith, zero_level)) (omega (arith, zero_level, higher))
        (λ found is. sum_level place low found (is ∙ zero_level)))

    typed_product : (place : ℕ) (operator_at : Position) → place ≤ 13 → (e : TExpr) → Sides 13 14 op2.Mul operator_at e → Good locals place e
    typed_product place operator_at low e s =
        let above : 1 ≤ level_of s.left = behind_sum (level_of s.left) s.is_left.level in
        let higher : 2 ≤ level_of s.right = behind_product (level_of s.right) s.is_right.level in
        subst (Good locals place) s.whole (good_binary place 13 14 s.left s.right op2.Mul operator_at refl s.is_left s.is_right above higher (product_level place low))

    typed_binary : (place : ℕ) (op : BinaryOp) (at operator_at : Position) (x y : JExpr) (e : TExpr) → place ≤ java_level op → Stands d (java_level op) x → Stands d (java_level op + 1) y
        → operands at (expression names x) (operator_of op) operator_at (expression names y) ≡ Judged.Typed e → Good locals place e
    typed_binary place op.Add at operator_at x y e low sx sy is = typed_sum place op2.Add operator_at refl refl low e (sides 12 13 op2.Add at operator_at x y e sx sy is)
    typed_binary place op.Subtract at operator_at x y e low sx sy is = typed_sum place op2.Sub operator_at refl refl low e (sides 12 13 op2.Sub at operator_at x y e sx sy is)
    typed_binary place op.Multiply at operator_at x y e low sx sy is = typed_product place operator_at low e (sides 13 14 op2.Mul at operator_at x y e sx sy is)
    typed_binary place op.OrElse at operator_at x y e low sx sy is = absurd (cc is)
    typed_binary place op.AndAlso at operator_at x y e low sx sy is = absurd (cc is)
    typed_binary place op.BitOr at operator_at x y e low sx sy is = absurd (cc is)
    typed_binary place op.BitXor at operator_at x y e low sx sy is = absurd (cc is)
    typed_binary place op.BitAnd at operator_at x y e low sx sy is = absurd (cc is)
    typed_binary place op.Equal at operator_at x y e low sx sy is = absurd (cc is)
    typed_binary place op.NotEqual at operator_at x y e low sx sy is = absurd (cc is)
    typed_binary place op.Less at operator_at x y e low sx sy is = absurd (cc is)
    typed_binary place op.LessEqual at operator_at x y e low sx sy is = absurd (cc is)
    typed_binary place op.Greater at operator_at x y e low sx sy is = absurd (cc is)
    typed_binary place (op.GreaterEqual second) at operator_at x y e low sx sy is = absurd (cc is)
    typed_binary place op.ShiftLeft at operator_at x y e low sx sy is = absurd (cc is)
    typed_binary place (op.ShiftRight second) at operator_at x y e low sx sy is = absurd (cc is)
    typed_binary place (op.ShiftUnsigned second third) at operator_at x y e low sx sy is = absurd (cc is)
    typed_binary place op.Divide at operator_at x y e low sx sy is = absurd (cc is)
    typed_binary place op.Remainder at operator_at x y e low sx sy is = absurd (cc is)

    typed_paren : (place : ℕ) (lp : Position) (x : JExpr) (e : TExpr) → place ≤ 16 → Stands d any_level x → (expression names x >>= paren_of lp) ≡ Judged.Typed e → Good locals place e
    typed_paren place lp x e low s is =
        let first = bind_typed (expression names x) (paren_of lp) e is in
        let whole = unless_typed (is_number first.0) (Judged.Typed (t.Paren lp first.0)) lp e first.2 in
        subst (Good locals place) (typed_is _ _ whole) (good_paren place any_level low lp first.0 (inner any_level x s first.0 first.1))

    typed_local : (place : ℕ) (name : List ℕ) (at : Position) (e : TExpr) → place ≤ 16 → local_of names name at ≡ Judged.Typed e → Good locals place e
    typed_local place name at e low is =
        let parts = if_typed (contains_name names name) (Judged.Typed (t.Local name at int_type)) at e is in
        subst (Good locals place) (typed_is _ _ parts.1) (good_local place low name at parts.0)

    typed_layer : (place : ℕ) (at : Position) (x : JExpr-F JExpr) (e : TExpr) → place ≤ top_by x → stands_by d (TypeStands d) (TypedStands d) (Stands d) x
        → form_of names at (map-JExpr JExpr Part (beside (expression names)) x) ≡ Judged.Typed e → Good locals place e
    typed_layer place at (JExpr-F.Name n name_at) e low s is = typed_local place n at e low is
    typed_layer place at (JExpr-F.Literal x literal_at) e low s is = typed_literal place x at e low is
    typed_layer place at (JExpr-F.Paren lp x rp) e low s is = typed_paren place at x e low s is
    typed_layer place at (JExpr-F.Binary x op op_at y) e low s is = typed_binary place op at op_at x y e low s.0 s.1 is
    typed_layer place at (JExpr-F.This this_at) e low s is = absurd (cc is)
    typed_layer place at (JExpr-F.Call n call_at lp args commas rp) e low s is = absurd (cc is)
    typed_layer place at (JExpr-F.SuperCall above dot n call_at lp args commas rp) e low s is = absurd (cc is)
    typed_layer place at (JExpr-F.Field x dot n field_at) e low s is = absurd (cc is)
    typed_layer place at (JExpr-F.Method x dot n call_at lp args commas rp) e low s is = absurd (cc is)
    typed_layer place at (JExpr-F.Element x lp index rp) e low s is = absurd (cc is)
    typed_layer place at (JExpr-F.Postfix x op op_at) e low s is = absurd (cc is)
    typed_layer place at (JExpr-F.Prefix op op_at x) e low s is = absurd (cc is)
    typed_layer place at (JExpr-F.MinusLeast minus x literal_at) e low s is = absurd (cc is)
    typed_layer place at (JExpr-F.Cast lp to rp x) e low s is = absurd (cc is)
    typed_layer place at (JExpr-F.Instanceof x test_at to) e low s is = absurd (cc is)
    typed_layer place at (JExpr-F.Conditional x question y colon z) e low s is = absurd (cc is)
    typed_layer place at (JExpr-F.Assign x op op_at y) e low s is = absurd (cc is)
    typed_layer place at (JExpr-F.Lambda params arrow body) e low s is = absurd (cc is)
    typed_layer place at (JExpr-F.LambdaBlock params arrow body) e low s is = absurd (cc is)
    typed_layer place at (JExpr-F.New new_at made lp args commas rp body) e low s is = absurd (cc is)
    typed_layer place at (JExpr-F.NewArray new_at of lb size rb more) e low s is = absurd (cc is)
    typed_layer place at (JExpr-F.NewFilled new_at of brackets lc inits commas more rc) e low s is = absurd (cc is)
    typed_layer place at (JExpr-F.Braces lc inits commas more rc) e low s is = absurd (cc is)

  pub typed_expression : (d place : ℕ) (x : JExpr) → Stands d place x → (e : TExpr) → expression names x ≡ Judged.Typed e → Good locals place e
  unfolding Stands top
  typed_expression zero place x s e is = absurd s
  typed_expression (suc d) place x s e is =
      typed_layer d (typed_expression d) place (first_at x) (out-JExpr x) e s.0 s.1 (sym (expression_out names x) ∙ is)

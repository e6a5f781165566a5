-- Operators on operands that they take are well typed.
use Rattle.std.proofs.Common.{◌≡◌, Bool, true, false, ◌&&◌, ◌||◌, if◌then◌else◌, Option, Some, None, refl, subst, ◌∙◌}
use Rattle.java_tree.specs.declared.tokens.Position.{Position}
use Rattle.j2k_base.specs.declared.constants.Kind.{Kind}
use Rattle.j2k_base.specs.declared.constants.Op2.{Op2}
use Rattle.j2k_base.specs.declared.constants.Op2.TheVariants as op
use Rattle.java_typed.specs.declared.types.TType.{TType}
use Rattle.java_typed.specs.declared.types.TType.TheVariants as t
use Rattle.java_typed.specs.declared.exprs.UnaryOp.{UnaryOp}
use Rattle.java_typed.specs.declared.exprs.UnaryOp.TheVariants as unaries
use Rattle.java_typed.specs.declared.exprs.TExpr.{TExpr}
use Rattle.java_type_relations.specs.declared.heads.Heads.{Heads}
use Rattle.java_type_relations.specs.declared.kinds.Simple.{Simple}
use Rattle.java_type_relations.specs.declared.kinds.Simple.TheVariants as simple
use Rattle.java_type_relations.specs.Kinds.{promoted, promoted_both, simple_in}
use Rattle.java_typing.specs.Operators.{is_arithmetic, is_comparison, is_logical, is_shift, is_sign}
use Rattle.java_typing.specs.Typing.{Declared}
use Rattle.java_typing.specs.Typing as y
use Rattle.java_operators.specs.declared.ways.Way.{Way}
use Rattle.java_operators.specs.declared.ways.Way.TheVariants as way
use Rattle.java_operators.specs.Choices.{simple_type}
use Rattle.java_operators.specs.Ways.{are_comparable, arithmetic, binary, comparison, is_reference, is_string, is_truth, is_truth_by, logical, or_way, same_way, shift, shift_by, signed, simple_equality, unary, way_type, worked_in}
use Rattle.java_operators.specs.Trees.{binary_tree, in_type, is_equal, unary_tree}
use Rattle.java_operators.proofs.Promotion.{alone_in, both_in}
use Rattle.java_operators.proofs.Operands.{Has, operand_typed}

-- ---- what the definitions say of their operands

pub worked : (f : Kind → Way) (o : Option Kind) (w : Way) → worked_in f o ≡ Some w → (m : Kind) × (o ≡ Some m) × (f m ≡ w)
worked f (Some m) w e = (m, refl, cc)
worked f None w e = cc

pub truth_in : (p : Option Simple) → is_truth_by p ≡ true → p ≡ Some simple.Boolean
truth_in (Some simple.Boolean) e = refl
truth_in p e = cc

pub both_true : (u v : Bool) (w : Way) → (if u && v then Some way.Logical else None) ≡ Some w → (u ≡ true) × (v ≡ true) × (way.Logical ≡ w)
both_true true true w e = (refl, refl, cc)
both_true true false w e = cc
both_true false v w e = cc

pub shift_in : (p q : Option Kind) (w : Way) → shift_by p q ≡ Some w → (k : Kind) × (l : Kind) × (p ≡ Some k) × (q ≡ Some l) × (way.Shift k l ≡ w)
shift_in (Some k) (Some l) w e = (k, l, refl, refl, cc)
shift_in p q w e = cc

pub signed_in : (o : Option Kind) (p : Simple) → signed o ≡ Some p → (m : Kind) × (o ≡ Some m) × (simple.Number m ≡ p)
signed_in (Some m) p e = (m, refl, cc)
signed_in None p e = cc

module _ (heads : Heads) (declared : Declared) where
  -- an operand that is promoted
  number : (a : TType) (k m : Kind) → simple_in a ≡ Some (simple.Number k) → (e : TExpr) → Has heads declared e a → Has heads declared (in_type (simple.Number m) a e) (t.Number m)
  number a k m i e h = operand_typed heads declared a (simple.Number k) (simple.Number m) i refl e h

  truth : (a : TType) → is_truth a ≡ true → (e : TExpr) → Has heads declared e a → Has heads declared (in_type simple.Boolean a e) t.Boolean
  truth a i e h = operand_typed heads declared a simple.Boolean simple.Boolean (truth_in (simple_in a) i) refl e h

  -- ---- before an operand

  sign_typed : (o : UnaryOp) → is_sign o ≡ true → (at : Position) (e : TExpr) (a : TType) (p : Simple) → signed (promoted a) ≡ Some p →
      Has heads declared e a → Has heads declared (unary_tree o p at e a) (simple_type p)
  sign_typed o i at e a p s h =
      let m = signed_in (promoted a) p s in
      let n = alone_in (simple_in a) m.0 m.1 in
      subst (λ v. Has heads declared (unary_tree o v at e a) (simple_type v)) m.2
      (y.sign o at (in_type (simple.Number m.0) a e) m.0 i n.2 (number a n.0 m.0 n.1 e h))

  not_at : (at : Position) (e : TExpr) (a : TType) (p : Simple) (u : Bool) → is_truth a ≡ u → (if u then Some simple.Boolean else None) ≡ Some p →
      Has heads declared e a → Has heads declared (unary_tree unaries.Not p at e a) (simple_type p)
  not_at at e a p true i s h =
      let is : simple.Boolean ≡ p = cc in
      subst (λ v. Has heads declared (unary_tree unaries.Not v at e a) (simple_type v)) is (y.complement at (in_type simple.Boolean a e) (truth a i e h))
  not_at at e a p false i s h = cc

  pub unary_typed : (o : UnaryOp) (at : Position) (e : TExpr) (a : TType) (p : Simple) → unary o a ≡ Some p →
      Has heads declared e a → Has heads declared (unary_tree o p at e a) (simple_type p)
  unary_typed unaries.Plus at e a p s h = sign_typed unaries.Plus refl at e a p s h
  unary_typed unaries.Minus at e a p s h = sign_typed unaries.Minus refl at e a p s h
  unary_typed unaries.Complement at e a p s h = sign_typed unaries.Complement refl at e a p s h
  unary_typed unaries.Not at e a p s h = not_at at e a p (is_truth a) refl s h

  -- ---- between two operands

  module _ (at : Position) (e f : TExpr) (a b : TType) (h : Has heads declared e a) (g : Has heads declared f b) where
    abbrev Typed : Op2 → Way → Type 0
    Typed o w = Has heads declared (binary_tree o w e a at f b) (way_type w)

    arithmetic_typed : (o : Op2) → is_arithmetic o ≡ true → (w : Way) → arithmetic a b ≡ Some w → Typed o w
    arithmetic_typed o i w s =
        let m = worked way.Arithmetic (promoted_both a b) w s in
        let n = both_in (simple_in a) (simple_in b) m.0 m.1 in
        subst (Typed o) m.2
        (y.arithmetic (in_type (simple.Number m.0) a e) o at (in_type (simple.Number m.0) b f) m.0 i n.4 (number a n.0 m.0 n.2 e h) (number b n.1 m.0 n.3 f g))

    comparison_typed : (o : Op2) → is_comparison o ≡ true → (w : Way) → comparison a b ≡ Some w → Typed o w
    comparison_typed o i w s =
        let m = worked way.Comparison (promoted_both a b) w s in
        let n = both_in (simple_in a) (simple_in b) m.0 m.1 in
        subst (Typed o) m.2
        (y.comparison (in_type (simple.Number m.0) a e) o at (in_type (simple.Number m.0) b f) m.0 i n.4 (number a n.0 m.0 n.2 e h) (number b n.1 m.0 n.3 f g))

    shift_typed : (o : Op2) → is_shift o ≡ true → (w : Way) → shift a b ≡ Some w → Typed o w
    shift_typed o i w s =
        let m = shift_in (promoted a) (promoted b) w s in
        let n = alone_in (simple_in a) m.0 m.2 in
        let l = alone_in (simple_in b) m.1 m.3 in
        subst (Typed o) m.4
        (y.shift (in_type (simple.Number m.0) a e) o at (in_type (simple.Number m.1) b f) m.0 m.1 i n.2 l.2 (number a n.0 m.0 n.1 e h) (number b l.0 m.1 l.1 f g))

    logical_typed : (o : Op2) → is_logical o ≡ true → (w : Way) → logical a b ≡ Some w → Typed o w
    logical_typed o i w s =
        let m = both_true (is_truth a) (is_truth b) w s in
        subst (Typed o) m.2 (y.logical (in_type simple.Boolean a e) o at (in_type simple.Boolean b f) i (truth a m.0 e h) (truth b m.1 f g))

    sum_at : (w : Way) (u : Bool) → (is_string a || is_string b) ≡ u → (if u then Some way.Concat else arithmetic a b) ≡ Some w → Typed op.Add w
    sum_at w true i s = let is : way.Concat ≡ w = cc in subst (Typed op.Add) is (y.concat e at f a b h g i)
    sum_at w false i s = arithmetic_typed op.Add refl w s

    bitwise_at : (o : Op2) → is_arithmetic o ≡ true → is_logical o ≡ true → (w : Way) (v : Option Way) → arithmetic a b ≡ v → or_way v (logical a b) ≡ Some w → Typed o w
    bitwise_at o i j w (Some v) k s = arithmetic_typed o i w (k ∙ s)
    bitwise_at o i j w None k s = logical_typed o j w s

    simple_at : (o : Op2) → is_comparison o ≡ true → is_logical o ≡ true → (w : Way) (v : Option Way) → comparison a b ≡ v → or_way v (logical a b) ≡ Some w → Typed o w
    simple_at o i j w (Some v) k s = comparison_typed o i w (k ∙ s)
    simple_at o i j w None k s = logical_typed o j w s

    same_at : (o : Op2) (w : Way) (u : Bool) → are_comparable heads a b ≡ u → (if u then Some way.Same else None) ≡ Some w → Typed o w
    same_at o w true i s = let is : way.Same ≡ w = cc in subst (Typed o) is (y.same_reference e (is_equal o) at f a b h g i)
    same_at o w false i s = cc

    equality_at : (o : Op2) → is_comparison o ≡ true → is_logical o ≡ true → (w : Way) (u : Bool) → (is_reference a && is_reference b) ≡ u →
        (if u then same_way heads a b else simple_equality a b) ≡ Some w → Typed o w
    equality_at o i j w true k s = same_at o w (are_comparable heads a b) refl s
    equality_at o i j w false k s = simple_at o i j w (comparison a b) refl s

    pub binary_typed : (o : Op2) (w : Way) → binary heads o a b ≡ Some w → Typed o w
    binary_typed op.Add w s = sum_at w (is_string a || is_string b) refl s
    binary_typed op.Sub w s = arithmetic_typed op.Sub refl w s
    binary_typed op.Mul w s = arithmetic_typed op.Mul refl w s
    binary_typed op.Div w s = arithmetic_typed op.Div refl w s
    binary_typed op.Rem w s = arithmetic_typed op.Rem refl w s
    binary_typed op.Shl w s = shift_typed op.Shl refl w s
    binary_typed op.Shr w s = shift_typed op.Shr refl w s
    binary_typed op.Ushr w s = shift_typed op.Ushr refl w s
    binary_typed op.And w s = bitwise_at op.And refl refl w (arithmetic a b) refl s
    binary_typed op.Or w s = bitwise_at op.Or refl refl w (arithmetic a b) refl s
    binary_typed op.Xor w s = bitwise_at op.Xor refl refl w (arithmetic a b) refl s
    binary_typed op.Lt w s = comparison_typed op.Lt refl w s
    binary_typed op.Le w s = comparison_typed op.Le refl w s
    binary_typed op.Gt w s = comparison_typed op.Gt refl w s
    binary_typed op.Ge w s = comparison_typed op.Ge refl w s
    binary_typed op.Eq w s = equality_at op.Eq refl refl w (is_reference a && is_reference b) refl s
    binary_typed op.Ne w s = equality_at op.Ne refl refl w (is_reference a && is_reference b) refl s
    binary_typed op.AndAlso w s = logical_typed op.AndAlso refl w s
    binary_typed op.OrElse w s = logical_typed op.OrElse refl w s

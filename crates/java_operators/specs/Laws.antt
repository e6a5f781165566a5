-- What is promised of operators.
use Rattle.std.specs.Prelude.{◌≡◌, true, Some}
use Rattle.java_tree.specs.declared.tokens.Position.{Position}
use Rattle.j2k_base.specs.declared.constants.Kind.{Kind}
use Rattle.j2k_base.specs.declared.constants.Op2.{Op2}
use Rattle.java_typed.specs.declared.types.TType.{TType}
use Rattle.java_typed.specs.declared.types.TResult.TheVariants as r
use Rattle.java_typed.specs.declared.exprs.UnaryOp.{UnaryOp}
use Rattle.java_typed.specs.declared.exprs.TExpr.{TExpr}
use Rattle.java_type_relations.specs.declared.heads.Heads.{Heads}
use Rattle.java_type_relations.specs.declared.kinds.Simple.{Simple}
use Rattle.java_type_relations.specs.declared.kinds.Simple.TheVariants as simple
use Rattle.java_type_relations.specs.Kinds.{common_kind, is_within}
use Rattle.java_typing.specs.Operators.{is_promoted}
use Rattle.java_typing.specs.Typing.{Declared, HasType}
use Rattle.java_operators.specs.declared.ways.Way.{Way}
use Rattle.java_operators.specs.Choices.{simple_type}
use Rattle.java_operators.specs.Ways.{binary, unary, way_type}
use Rattle.java_operators.specs.Trees.{binary_tree, unary_tree}

-- promotion of two numbers gives int or long, and takes both (JLS 5.6.2)
abbrev pub PromotionTakesBoth : Type 0
PromotionTakesBoth = (k l : Kind) →
    (is_promoted (common_kind k l) ≡ true)
    × (is_within (simple.Number k) (simple.Number (common_kind k l)) ≡ true)
    × (is_within (simple.Number l) (simple.Number (common_kind k l)) ≡ true)

-- no smaller one of these takes both
abbrev pub PromotionIsLeast : Type 0
PromotionIsLeast = (k l m : Kind) → is_promoted m ≡ true →
    is_within (simple.Number k) (simple.Number m) ≡ true → is_within (simple.Number l) (simple.Number m) ≡ true →
    is_within (simple.Number (common_kind k l)) (simple.Number m) ≡ true

-- an operator that takes its operands, with their conversions, is well typed and has the type that is said
abbrev pub UnaryHasType : Type 0
UnaryHasType = (heads : Heads) (declared : Declared) (o : UnaryOp) (at : Position) (x : TExpr) (a : TType) (p : Simple) →
    unary o a ≡ Some p → HasType heads declared x (r.Value a) →
    HasType heads declared (unary_tree o p at x a) (r.Value (simple_type p))

abbrev pub BinaryHasType : Type 0
BinaryHasType = (heads : Heads) (declared : Declared) (o : Op2) (at : Position) (x y : TExpr) (a b : TType) (w : Way) →
    binary heads o a b ≡ Some w → HasType heads declared x (r.Value a) → HasType heads declared y (r.Value b) →
    HasType heads declared (binary_tree o w x a at y b) (r.Value (way_type w))

-- Numeric promotion.
use Rattle.std.proofs.Common.{◌≡◌, true, Option, Some, refl, subst}
use Rattle.j2k_base.specs.declared.constants.Kind.{Kind}
use Rattle.j2k_base.specs.declared.constants.Kind.TheVariants as kind
use Rattle.java_type_relations.specs.declared.kinds.Simple.{Simple}
use Rattle.java_type_relations.specs.declared.kinds.Simple.TheVariants as simple
use Rattle.java_type_relations.specs.Kinds.{common_by, common_kind, is_within, promoted_by, promoted_kind}
use Rattle.java_typing.specs.Operators.{is_promoted}
use Rattle.java_operators.specs.Laws.{PromotionIsLeast, PromotionTakesBoth}

pub alone_promoted : (k : Kind) → is_promoted (promoted_kind k) ≡ true
alone_promoted kind.Byte = refl
alone_promoted kind.Short = refl
alone_promoted kind.Char = refl
alone_promoted kind.Int = refl
alone_promoted kind.Long = refl

pub common_promoted : (k l : Kind) → is_promoted (common_kind k l) ≡ true
common_promoted kind.Byte l = alone_promoted l
common_promoted kind.Short l = alone_promoted l
common_promoted kind.Char l = alone_promoted l
common_promoted kind.Int l = alone_promoted l
common_promoted kind.Long l = refl

in_long : (k : Kind) → is_within (simple.Number k) (simple.Number kind.Long) ≡ true
in_long kind.Byte = refl
in_long kind.Short = refl
in_long kind.Char = refl
in_long kind.Int = refl
in_long kind.Long = refl

in_promoted : (l : Kind) → is_within (simple.Number l) (simple.Number (promoted_kind l)) ≡ true
in_promoted kind.Byte = refl
in_promoted kind.Short = refl
in_promoted kind.Char = refl
in_promoted kind.Int = refl
in_promoted kind.Long = refl

widened : (k l : Kind) → is_within (simple.Number k) (simple.Number kind.Int) ≡ true → is_within (simple.Number k) (simple.Number (promoted_kind l)) ≡ true
widened k kind.Byte h = h
widened k kind.Short h = h
widened k kind.Char h = h
widened k kind.Int h = h
widened k kind.Long h = in_long k

left_within : (k l : Kind) → is_within (simple.Number k) (simple.Number (common_kind k l)) ≡ true
left_within kind.Byte l = widened kind.Byte l refl
left_within kind.Short l = widened kind.Short l refl
left_within kind.Char l = widened kind.Char l refl
left_within kind.Int l = widened kind.Int l refl
left_within kind.Long l = refl

right_within : (k l : Kind) → is_within (simple.Number l) (simple.Number (common_kind k l)) ≡ true
right_within kind.Byte l = in_promoted l
right_within kind.Short l = in_promoted l
right_within kind.Char l = in_promoted l
right_within kind.Int l = in_promoted l
right_within kind.Long l = in_long l

pub takes_both : PromotionTakesBoth
takes_both k l = (common_promoted k l, left_within k l, right_within k l)

below_int : (l : Kind) → is_within (simple.Number l) (simple.Number kind.Int) ≡ true → is_within (simple.Number (promoted_kind l)) (simple.Number kind.Int) ≡ true
below_int kind.Byte h = refl
below_int kind.Short h = refl
below_int kind.Char h = refl
below_int kind.Int h = refl
below_int kind.Long h = h

common_below_int : (k l : Kind) → is_within (simple.Number k) (simple.Number kind.Int) ≡ true → is_within (simple.Number l) (simple.Number kind.Int) ≡ true →
    is_within (simple.Number (common_kind k l)) (simple.Number kind.Int) ≡ true
common_below_int kind.Byte l h g = below_int l g
common_below_int kind.Short l h g = below_int l g
common_below_int kind.Char l h g = below_int l g
common_below_int kind.Int l h g = below_int l g
common_below_int kind.Long l h g = h

pub least : PromotionIsLeast
least k l kind.Long p h g = in_long (common_kind k l)
least k l kind.Int p h g = common_below_int k l h g
least k l m p h g = cc

-- ---- what promotion says of its operands

pub alone_in : (p : Option Simple) (m : Kind) → promoted_by p ≡ Some m → (k : Kind) × (p ≡ Some (simple.Number k)) × (is_promoted m ≡ true)
alone_in (Some (simple.Number k)) m e =
    let is : promoted_kind k ≡ m = cc in
    (k, refl, subst (λ z. is_promoted z ≡ true) is (alone_promoted k))
alone_in p m e = cc

pub both_in : (p q : Option Simple) (m : Kind) → common_by p q ≡ Some m →
    (k : Kind) × (l : Kind) × (p ≡ Some (simple.Number k)) × (q ≡ Some (simple.Number l)) × (is_promoted m ≡ true)
both_in (Some (simple.Number k)) (Some (simple.Number l)) m e =
    let is : common_kind k l ≡ m = cc in
    (k, l, refl, refl, subst (λ z. is_promoted z ≡ true) is (common_promoted k l))
both_in p q m e = cc

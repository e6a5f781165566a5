-- The table of operators and kinds is covered.
use Rattle.std.proofs.Common.{◌≡◌, Bool, true, false, refl, ℤ, pos}
use Rattle.std.specs.Prelude.{Some, None, not, ◌&&◌, is_some, if◌then◌else◌}
use Rattle.std.specs.Ordering.{int_eq}
use Rattle.j2k_base.specs.declared.constants.Kind.{Kind}
use Rattle.j2k_base.specs.declared.constants.Kind.TheVariants as kind
use Rattle.j2k_base.specs.declared.constants.Op2.{Op2}
use Rattle.j2k_base.specs.declared.constants.Op2.TheVariants as by
use Rattle.j2k_base.specs.declared.constants.Const.{Const}
use Rattle.j2k_base.specs.declared.constants.Const.TheVariants as constant
use Rattle.const_fold.specs.Constants.{operated, decided, common, promoted}
use Rattle.const_fold.specs.Laws.{is_numeric, is_logical, is_division, OperatorsAreCovered, CastsAreCovered, OneValue}

unless : (b : Bool) (c : Const) → is_some (if b then None else Some c) ≡ not b
unless true c = refl
unless false c = refl

on_numbers : (op : Op2) (left both : Kind) (x y : ℤ) → is_some (operated op left both x y) ≡ (is_numeric op && not (is_division op && int_eq y (pos 0)))
on_numbers by.Div left both x y = unless (int_eq y (pos 0)) _
on_numbers by.Rem left both x y = unless (int_eq y (pos 0)) _
on_numbers _ left both x y = refl

on_truths : (op : Op2) (p q : Bool) → is_some (decided op p q) ≡ is_logical op
on_truths by.And p q = refl
on_truths _ p q = refl

pub covered : OperatorsAreCovered
covered op (constant.Byte x) (constant.Byte y) = on_numbers op (promoted kind.Byte) (common (promoted kind.Byte) kind.Byte) x y
covered op (constant.Byte x) (constant.Short y) = on_numbers op (promoted kind.Byte) (common (promoted kind.Byte) kind.Short) x y
covered op (constant.Byte x) (constant.Char n) = on_numbers op (promoted kind.Byte) (common (promoted kind.Byte) kind.Char) x (pos n)
covered op (constant.Byte x) (constant.Int y) = on_numbers op (promoted kind.Byte) (common (promoted kind.Byte) kind.Int) x y
covered op (constant.Byte x) (constant.Long y) = on_numbers op (promoted kind.Byte) (common (promoted kind.Byte) kind.Long) x y
covered op (constant.Byte x) (constant.Bool q) = refl
covered op (constant.Short x) (constant.Byte y) = on_numbers op (promoted kind.Short) (common (promoted kind.Short) kind.Byte) x y
covered op (constant.Short x) (constant.Short y) = on_numbers op (promoted kind.Short) (common (promoted kind.Short) kind.Short) x y
covered op (constant.Short x) (constant.Char n) = on_numbers op (promoted kind.Short) (common (promoted kind.Short) kind.Char) x (pos n)
covered op (constant.Short x) (constant.Int y) = on_numbers op (promoted kind.Short) (common (promoted kind.Short) kind.Int) x y
covered op (constant.Short x) (constant.Long y) = on_numbers op (promoted kind.Short) (common (promoted kind.Short) kind.Long) x y
covered op (constant.Short x) (constant.Bool q) = refl
covered op (constant.Char m) (constant.Byte y) = on_numbers op (promoted kind.Char) (common (promoted kind.Char) kind.Byte) (pos m) y
covered op (constant.Char m) (constant.Short y) = on_numbers op (promoted kind.Char) (common (promoted kind.Char) kind.Short) (pos m) y
covered op (constant.Char m) (constant.Char n) = on_numbers op (promoted kind.Char) (common (promoted kind.Char) kind.Char) (pos m) (pos n)
covered op (constant.Char m) (constant.Int y) = on_numbers op (promoted kind.Char) (common (promoted kind.Char) kind.Int) (pos m) y
covered op (constant.Char m) (constant.Long y) = on_numbers op (promoted kind.Char) (common (promoted kind.Char) kind.Long) (pos m) y
covered op (constant.Char m) (constant.Bool q) = refl
covered op (constant.Int x) (constant.Byte y) = on_numbers op (promoted kind.Int) (common (promoted kind.Int) kind.Byte) x y
covered op (constant.Int x) (constant.Short y) = on_numbers op (promoted kind.Int) (common (promoted kind.Int) kind.Short) x y
covered op (constant.Int x) (constant.Char n) = on_numbers op (promoted kind.Int) (common (promoted kind.Int) kind.Char) x (pos n)
covered op (constant.Int x) (constant.Int y) = on_numbers op (promoted kind.Int) (common (promoted kind.Int) kind.Int) x y
covered op (constant.Int x) (constant.Long y) = on_numbers op (promoted kind.Int) (common (promoted kind.Int) kind.Long) x y
covered op (constant.Int x) (constant.Bool q) = refl
covered op (constant.Long x) (constant.Byte y) = on_numbers op (promoted kind.Long) (common (promoted kind.Long) kind.Byte) x y
covered op (constant.Long x) (constant.Short y) = on_numbers op (promoted kind.Long) (common (promoted kind.Long) kind.Short) x y
covered op (constant.Long x) (constant.Char n) = on_numbers op (promoted kind.Long) (common (promoted kind.Long) kind.Char) x (pos n)
covered op (constant.Long x) (constant.Int y) = on_numbers op (promoted kind.Long) (common (promoted kind.Long) kind.Int) x y
covered op (constant.Long x) (constant.Long y) = on_numbers op (promoted kind.Long) (common (promoted kind.Long) kind.Long) x y
covered op (constant.Long x) (constant.Bool q) = refl
covered op (constant.Bool p) (constant.Byte y) = refl
covered op (constant.Bool p) (constant.Short y) = refl
covered op (constant.Bool p) (constant.Char n) = refl
covered op (constant.Bool p) (constant.Int y) = refl
covered op (constant.Bool p) (constant.Long y) = refl
covered op (constant.Bool p) (constant.Bool q) = on_truths op p q

pub casts_covered : CastsAreCovered
casts_covered to (constant.Bool p) = refl
casts_covered to _ = refl

pub one_value_lem : OneValue
one_value_lem e v w g h = cc

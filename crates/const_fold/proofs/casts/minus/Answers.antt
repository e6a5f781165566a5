use Rattle.std.proofs.Common.{ap, ◌∙◌, sym, rules, Some, ℤ, w32, w64}
use Rattle.j2k_base.specs.declared.constants.Const.TheVariants as constant
use Rattle.const_fold.specs.Constants.{minus_value}
use Rattle.const_fold.proofs.Numbers.{neg_is}
use Rattle.const_fold.proofs.casts.minus.Goals as goal

pub returns-in-Int : goal.returns-in-Int
returns-in-Int c = ap (λ (z : ℤ). Some (constant.Int z)) (neg_is w32 c.in-Int.x c.wrapping_neg-in-Int.result (search rules) c.wrapping_neg-in-Int.ensures) ∙ sym (ap minus_value c.in-Int.is)

pub returns-in-Long : goal.returns-in-Long
returns-in-Long c = ap (λ (z : ℤ). Some (constant.Long z)) (neg_is w64 c.in-Long.x c.wrapping_neg-in-Long.result (search rules) c.wrapping_neg-in-Long.ensures) ∙ sym (ap minus_value c.in-Long.is)

use Rattle.std.proofs.Common.{ap, rules, arith, w64}
use Rattle.j2k_base.specs.declared.constants.Const.TheVariants as constant
use Rattle.const_fold.proofs.Numbers.{shl_is}
use Rattle.const_fold.proofs.operators.shl_long.Goals as goal

pub returns : goal.returns
returns c = ap constant.Long (shl_is w64 64 c.args.x c.args.y c.rem_euclid.result (omega arith) (omega arith) c.ranges.x c.ranges.y (search rules) c.rem_euclid.ensures.value)

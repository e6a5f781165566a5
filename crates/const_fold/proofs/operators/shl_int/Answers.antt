use Rattle.std.proofs.Common.{ap, rules, arith, w32}
use Rattle.j2k_base.specs.declared.constants.Const.TheVariants as constant
use Rattle.const_fold.proofs.Numbers.{shl_is}
use Rattle.const_fold.proofs.operators.shl_int.Goals as goal

pub returns : goal.returns
returns c = ap constant.Int (shl_is w32 32 c.args.x c.args.y c.rem_euclid.result (omega arith) (omega arith) c.ranges.x c.ranges.y (search rules) c.rem_euclid.ensures.value)

use Rattle.std.proofs.Common.{ap, rules, w32}
use Rattle.j2k_base.specs.declared.constants.Const.TheVariants as constant
use Rattle.const_fold.proofs.Numbers.{ushr_is}
use Rattle.const_fold.proofs.operators.ushr_int.Goals as goal

pub returns : goal.returns
returns c = ap constant.Int (ushr_is w32 32 c.args.x c.args.y c.rem_euclid.result c.cast_signed.result c.cast_unsigned.result c.ranges.x c.ranges.y (search rules) c.cast_unsigned.ensures c.rem_euclid.ensures.value c.cast_signed.ensures)

use Rattle.std.specs.Int.{w8}
use Rattle.j2k_base.proofs.Wraps.{wrapped}
use Rattle.j2k_base.proofs.widths.wrap_i8.Goals as goal

pub returns : goal.returns
returns c = wrapped w8 c.args.x _ _ c.ranges.x (record { sfits = c.rem_euclid.type_inv }) (record { sfits = c.cast_signed.type_inv }) c.rem_euclid.ensures.value c.cast_signed.ensures

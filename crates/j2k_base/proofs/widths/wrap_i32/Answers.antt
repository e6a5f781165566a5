use Rattle.std.specs.Int.{w32}
use Rattle.j2k_base.proofs.Wraps.{wrapped}
use Rattle.j2k_base.proofs.widths.wrap_i32.Goals as goal

pub returns : goal.returns
returns c = wrapped w32 c.args.x _ _ c.ranges.x (record { sfits = c.rem_euclid.type_inv }) (record { sfits = c.cast_signed.type_inv }) c.rem_euclid.ensures.value c.cast_signed.ensures

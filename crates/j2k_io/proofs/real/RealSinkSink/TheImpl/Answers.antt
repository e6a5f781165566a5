use Rattle.std.proofs.Common.{refl}
use Rattle.j2k_io.proofs.Untold.{on_ok, on_err}
use Rattle.j2k_io.proofs.real.RealSinkSink.TheImpl.Goals as goal

pub put-tells : goal.put-tells
put-tells g c = record {
  given = on_ok c.result _ refl;
  cut = on_err c.result _ (0, refl);
  faults = c.ensures.faults;
}

use Rattle.std.proofs.Common.{refl, inl, arith}
use Rattle.j2k_io.proofs.Untold.{if_ok, on_ok, on_err}
use Rattle.j2k_io.proofs.real.RealDiskDisk.TheImpl.Goals as goal

pub list-tells : goal.list-tells
list-tells g c = record {
  listed = if_ok c.result _ (λ paths. tt);
  kept = refl;
  reads = c.ensures.reads;
  writes = omega (arith, c.ensures.writes);
}

pub read-tells : goal.read-tells
read-tells g c = record {
  bytes = if_ok c.result _ (λ bytes. tt);
  within = c.ensures.within;
  kept = refl;
  reads = c.ensures.reads;
  writes = omega (arith, c.ensures.writes);
}

pub write_new-tells : goal.write_new-tells
write_new-tells g c = record {
  written = on_ok c.result _ refl;
  cut = on_err c.result _ (inl refl);
  reads = omega (arith, c.ensures.reads);
  writes = c.ensures.writes;
}

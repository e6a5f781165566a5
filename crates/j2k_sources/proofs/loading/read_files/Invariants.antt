use Rattle.std.proofs.Common.{◌≡◌, ◌≤◌, IfSome}
use Rattle.j2k_sources.specs.Sources.{most_bytes, AreSmall}
use Rattle.j2k_sources.proofs.Loads.{HaveRead}
use Rattle.j2k_sources.proofs.loading.read_files.Given as goal

abbrev pub invariant-loop-path : goal.invariant-loop-path
invariant-loop-path g l = record {
  small : l.sum ≤ most_bytes;
  each : AreSmall l.files;
  kept : g.D.Disk.held l.disk ≡ g.D.Disk.held l.fn.disk;
  reads : g.D.Disk.reads l.fn.disk ≤ g.D.Disk.reads l.disk;
  writes : g.D.Disk.writes l.fn.disk ≤ g.D.Disk.writes l.disk;
  read : IfSome (g.D.Disk.held l.fn.disk) (λ files. HaveRead l.src files l.java l.path-index l.files l.sum);
}

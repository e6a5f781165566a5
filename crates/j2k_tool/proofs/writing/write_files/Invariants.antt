use Rattle.std.proofs.Common.{◌≡◌, ◌≤◌, IfSome, map, take, drop}
use Rattle.j2k_io.specs.Disks.{with_files}
use Rattle.j2k_tool.specs.Written.{placed, AreFree}
use Rattle.j2k_tool.proofs.writing.write_files.Given as goal

abbrev pub invariant-loop-file : goal.invariant-loop-file
invariant-loop-file g l = record {
  reads : g.D.Disk.reads l.fn.disk ≤ g.D.Disk.reads l.disk;
  writes : g.D.Disk.writes l.fn.disk ≤ g.D.Disk.writes l.disk;
  written : g.D.Disk.held l.disk ≡ with_files (g.D.Disk.held l.fn.disk) (map (placed l.dst) (take l.file-index l.files));
  rest : IfSome (g.D.Disk.held l.disk) (λ held. AreFree held (map (placed l.dst) (drop l.file-index l.files)));
}

use Rattle.std.proofs.Common.{◌<◌, length, arith}
use Rattle.j2k_sources.proofs.Loads.{listed_path}
use Rattle.j2k_sources.proofs.loading.read_files.Goals as goal

pub read_file-requires-clause-listed : goal.read_file-requires-clause-listed
read_file-requires-clause-listed g c =
    let h : c.loop-path.path-index < length c.args.java.now = omega arith in
    listed_path (g.D.Disk.held c.args.disk.now) (g.D.Disk.held c.loop-path.disk) c.args.src.now c.path-item.result c.args.java.now c.loop-path.path-index c.loop-path.invariant.kept c.requires h c.path-item.is

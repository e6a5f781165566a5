use Rattle.std.proofs.Common.{◌<◌, length, map, arith}
use Rattle.j2k_io.specs.Disks.{IsCut}
use Rattle.j2k_tool.specs.Written.{placed}
use Rattle.j2k_tool.proofs.Writes.{more_free, more_written, here_cut, on_err}
use Rattle.j2k_tool.proofs.writing.write_files.Goals as goal

pub returns-in_err-write-clause-cut : goal.returns-in_err-write-clause-cut
returns-in_err-write-clause-cut g c =
    let h : c.loop-file.file-index < length c.args.files.now = omega arith in
    on_err (IsCut (g.D.Disk.held c.args.disk.now) (map (placed c.args.dst.now) c.args.files.now) (g.D.Disk.held c.write.new.disk)) c.from_residual.result
    (here_cut (g.D.Disk.held c.args.disk.now) c.args.dst.now c.args.files.now c.loop-file.file-index c.file-item.result h c.file-item.is (g.D.Disk.held c.loop-file.disk) (g.D.Disk.held c.write.new.disk)
    c.in_err-write.ensures.cut c.loop-file.invariant.written)

pub loop-file-preserved : goal.loop-file-preserved
loop-file-preserved g c =
    let h : c.loop-file.file-index < length c.args.files.now = omega arith in
    record {
      reads = omega arith;
      writes = omega arith;
      written = more_written (g.D.Disk.held c.args.disk.now) c.args.dst.now c.args.files.now c.loop-file.file-index c.file-item.result h c.file-item.is (g.D.Disk.held c.loop-file.disk) (g.D.Disk.held c.write.new.disk) c.in_ok-write.ensures.written c.loop-file.invariant.written;
      rest = more_free (g.D.Disk.held c.args.disk.now) c.args.dst.now c.args.files.now c.loop-file.file-index c.file-item.result h c.file-item.is (g.D.Disk.held c.loop-file.disk) (g.D.Disk.held c.write.new.disk) c.in_ok-write.ensures.written c.loop-file.invariant.rest;
    }

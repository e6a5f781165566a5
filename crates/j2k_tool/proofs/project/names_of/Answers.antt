use Rattle.std.proofs.Common.{◌<◌, length, arith}
use Rattle.j2k_tool.proofs.Projects.{names_step}
use Rattle.j2k_tool.proofs.project.names_of.Goals as goal

pub loop-file-preserved : goal.loop-file-preserved
loop-file-preserved c =
    let h : c.loop-file.file-index < length c.args.files.now = omega arith in
    names_step c.args.files.now c.loop-file.file-index c.file-item.result h c.file-item.is c.loop-file.names c.declare.new.names c.loop-file.invariant (rw c.as_str.ensures at c.in_ok-declare.ensures)

use Rattle.std.proofs.Common.{◌<◌, length, arith}
use Rattle.java_project.proofs.Reading.{firsts_step, short_here}
use Rattle.java_project.proofs.project.firsts_of.Goals as goal

pub look-requires : goal.look-requires
look-requires c =
    let h : c.loop-file.file-index < length c.args.files.now = omega arith in
    short_here c.args.files.now c.loop-file.file-index c.file-item.result h c.file-item.is c.requires

pub loop-file-preserved : goal.loop-file-preserved
loop-file-preserved c =
    let h : c.loop-file.file-index < length c.args.files.now = omega arith in
    firsts_step c.args.files.now c.loop-file.file-index c.file-item.result h c.file-item.is c.loop-file.firsts c.add.new.self c.in_ok-found.found
    c.loop-file.invariant c.in_ok-found.ensures c.in_ok-add.ensures

use Rattle.kotlin_layout.specs.Shown.{import_line}
use Rattle.kotlin_layout.proofs.LawsToCite.{each_more}
use Rattle.kotlin_print.proofs.files.import_lines.Goals as goal

pub loop-x-preserved : goal.loop-x-preserved
loop-x-preserved c = each_more import_line c.args.list.now c.loop-x.x-index c.x-item.result c.args.p.now c.loop-x.p _ c.loop-x-test.true c.x-item.is c.loop-x.invariant c.in_ok-import.ensures

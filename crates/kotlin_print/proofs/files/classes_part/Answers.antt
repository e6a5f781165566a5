use Rattle.kotlin_print.proofs.Turns.{class_more}
use Rattle.kotlin_print.proofs.files.classes_part.Goals as goal

pub loop-x-preserved : goal.loop-x-preserved
loop-x-preserved c = class_more c.args.list.now c.loop-x.x-index c.x-item.result c.args.is_first c.loop-x.first c.args.p.now c.loop-x.p _ c.loop-x-test.true c.x-item.is c.loop-x.invariant c.in_ok-class_part.ensures

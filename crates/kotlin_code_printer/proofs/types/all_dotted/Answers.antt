use Rattle.kotlin_layout.specs.Shown.{dotted_roles}
use Rattle.kotlin_layout.proofs.LawsToCite.{each_more}
use Rattle.kotlin_code_printer.proofs.types.all_dotted.Goals as goal

pub loop-x-preserved : goal.loop-x-preserved
loop-x-preserved c = each_more dotted_roles c.args.list.now c.loop-x.x-index c.x-item.result c.args.p.now c.loop-x.p _ c.loop-x-test.true c.x-item.is c.loop-x.invariant c.in_ok-dotted.ensures

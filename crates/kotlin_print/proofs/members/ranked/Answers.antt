use Rattle.kotlin_layout.specs.Shown.{if_ranked}
use Rattle.kotlin_print.proofs.Turns.{each_at}
use Rattle.kotlin_print.proofs.members.ranked.Goals as goal

pub loop-x-preserved : goal.loop-x-preserved
loop-x-preserved c = each_at (if_ranked c.args.wanted) c.args.list.now c.loop-x.x-index _ c.args.p.now c.loop-x.p _ c.loop-x-test.true c.loop-x.invariant c.in_ok-if_ranked.ensures

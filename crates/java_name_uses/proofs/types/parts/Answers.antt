use Rattle.java_name_uses.specs.Uses.{part}
use Rattle.java_name_uses.proofs.Parts.{told}
use Rattle.java_name_uses.proofs.types.parts.Goals as goal

pub loop-x-preserved : goal.loop-x-preserved
loop-x-preserved c = told part c.args.xs.now c.loop-x.x-index c.x-item.result _ _ _ c.loop-x-test.true c.x-item.is c.loop-x.invariant c.in_ok-put_name.ensures

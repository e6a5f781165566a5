use Rattle.java_name_uses.proofs.Parts.{told_values}
use Rattle.java_name_uses.proofs.exprs.+uses.Goals as goal

pub expressions-loop-x-preserved : goal.expressions-loop-x-preserved
expressions-loop-x-preserved t c = told_values c.args.xs.now c.loop-x.x-index c.x-item.result _ _ _ c.loop-x-test.true c.x-item.is c.loop-x.invariant c.in_ok-expression.ensures

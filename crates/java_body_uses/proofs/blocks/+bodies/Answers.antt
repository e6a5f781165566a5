use Rattle.std.proofs.lemmas.Result.{on_ok_weaker}
use Rattle.java_body_uses.specs.Bodies.{body_uses}
use Rattle.java_body_uses.proofs.Filling.{one_more, no_more}
use Rattle.java_body_uses.proofs.blocks.+bodies.Goals as goal

pub put_filled-loop-inner-preserved : goal.put_filled-loop-inner-preserved
put_filled-loop-inner-preserved t c =
    one_more body_uses c.args.bodies.now c.loop-inner.inner-index c.inner-item.result c.loop-inner.left.now _ _ _ _ c.loop-inner-test.true c.inner-item.is c.loop-inner.invariant
    c.in_ok-left.ensures.said c.in_ok-left.ensures.left

pub put_filled-returns : goal.put_filled-returns
put_filled-returns t c =
    on_ok_weaker c.put_all_again.result
    (no_more body_uses c.args.bodies.now c.loop-inner.inner-index c.loop-inner.left.now _ _ _ c.loop-inner-test.false c.loop-inner.invariant)
    c.put_all_again.ensures

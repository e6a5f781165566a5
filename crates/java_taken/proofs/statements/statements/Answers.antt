use Rattle.std.proofs.Common.{◌<◌, [], length, arith}
use Rattle.java_taken.specs.Statements as s
use Rattle.java_taken.proofs.Loops.{typed_next}
use Rattle.java_taken.proofs.statements.statements.Goals as goal

pub loop-x-preserved : goal.loop-x-preserved
loop-x-preserved c =
    let h : c.loop-x.x-index < length c.args.xs.now = omega arith in
    let next = typed_next c.args.classes.now c.args.parameter.now c.args.xs.now c.loop-x.x-index c.x-item.result h c.x-item.is c.loop-x.names c.loop-x.found
    (s.statements c.args.classes.now c.args.parameter.now [] c.args.xs.now) c.loop-x.invariant c.in_ok-next.next c.in_ok-next.ensures in
    rw (c.in_ok-push.ensures.ok, c.into_inner.ensures, c.in_ok-declare.ensures, c.get.ensures) next

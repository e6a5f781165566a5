use Rattle.std.proofs.Common.{sym, ◌∙◌}
use Rattle.java_members.proofs.Picked.{nil_is}
use Rattle.java_members.proofs.Steps.{goes_on, stops}
use Rattle.java_members.proofs.walks.above.Goals as goal

pub returns-then-is_end : goal.returns-then-is_end
returns-then-is_end c =
    stops c.args.table.now c.args.sort c.args.name.now c.args.steps c.loop-done.done c.loop-done.level.items c.loop-done.out.items _ c.loop-done.invariant
    (nil_is c.loop-done.level.items (sym c.is_end.ensures ∙ c.if-is_end.true))

pub loop-done-preserved : goal.loop-done-preserved
loop-done-preserved c =
    goes_on c.args.table.now c.args.sort c.args.name.now c.args.steps c.loop-done.done c.loop-done.level.items c.loop-done.out.items _ c.loop-done.invariant
    c.climbed.new.out.items c.in_ok-level-2.level.items c.loop-done-test.true c.in_ok-level-2.ensures.taken c.in_ok-level-2.ensures.above

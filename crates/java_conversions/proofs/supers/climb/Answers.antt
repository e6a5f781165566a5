use Rattle.std.proofs.Common.{sym, ◌∙◌}
use Rattle.java_conversions.proofs.Climbs.{climb_on}
use Rattle.java_conversions.proofs.supers.climb.Goals as goal

pub loop-steps-preserved : goal.loop-steps-preserved
loop-steps-preserved c =
    let told = rw c.as_slice.ensures at c.in_ok-x.ensures in
    climb_on c.args.heads.now c.args.sought c.loop-steps.steps c.loop-steps.level c.in-Next.next c.loop-steps-test.true (sym told ∙ c.in-Next.is)
    ∙ c.loop-steps.invariant

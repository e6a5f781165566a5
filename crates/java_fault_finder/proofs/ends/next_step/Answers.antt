use Rattle.std.proofs.Common.{sym, arith}
use Rattle.java_fault_finder.proofs.Runs.{stop_long, stop_end}
use Rattle.java_fault_finder.proofs.ends.next_step.Goals as goal

pub returns-in-Stop : goal.returns-in-Stop
returns-in-Stop c =
    let t = sym c.in-Stop.ensures.same in
    (stop_long _ _ _ _ _ c.in-Some.ensures.found t, stop_end _ _ _ _ _ c.in-Some.ensures.found t, omega (arith, c.in-Some.ensures.shorter))

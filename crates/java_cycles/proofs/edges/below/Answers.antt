use Rattle.std.proofs.Common.{length, sym, ap, ◌∙◌, ◌++◌}
use Rattle.java_cycles.specs.Cycles.{others, ends_of}
use Rattle.java_cycles.proofs.Steps.{goes_on, stops}
use Rattle.java_cycles.proofs.edges.below.Goals as goal

pub loop-done-preserved : goal.loop-done-preserved
loop-done-preserved c =
    goes_on (length c.args.edges.now) c.loop-done.done c.loop-done.left.items c.loop-done.found.items _ c.loop-done.invariant
    c.in-Some.next _ c.take_ends-in-Some.new.found.items c.loop-done-test.true (sym c.in-Some.ensures)
    (c.in_ok-left-in-Some.ensures.rest ∙ ap (others c.in-Some.next) c.as_slice.ensures.value)
    (c.in_ok-left-in-Some.ensures.found ∙ ap (λ l. c.loop-done.found.items ++ ends_of c.in-Some.next l) c.as_slice.ensures.value)

pub returns-in-None : goal.returns-in-None
returns-in-None c =
    stops (length c.args.edges.now) c.loop-done.done c.loop-done.left.items c.loop-done.found.items _ c.loop-done.invariant
    c.loop-done-test.true (sym c.in-None.ensures)

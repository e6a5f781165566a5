use Rattle.std.proofs.Common.{arith}
use Rattle.std.proofs.lemmas.Bool.Decides.{nat_tests}
use Rattle.java_fault_finder.specs.Walks.{state_seen}
use Rattle.java_fault_finder.proofs.Passing.{turned, faulty, ended}
use Rattle.java_fault_finder.proofs.walk.first_unspelled.Goals as goal

pub returns-in_default : goal.returns-in_default
returns-in_default c =
    let h = c.loop-rest.invariant.within in
    let none = rw c.in_default.is at c.in_ok-passed.ensures in
    faulty c.args.pieces.now c.loop-rest.rest.now (state_seen c.loop-rest.state) c.loop-rest.invariant.led none (grind (arith, nat_tests, c.is_empty.ensures, c.loop-rest-test.true)) (omega (arith, h))

pub loop-rest-smaller : goal.loop-rest-smaller
loop-rest-smaller c =
    let h = c.loop-rest.invariant.within in
    let e = rw c.in-Some.is at c.in_ok-passed.ensures in
    (turned c.args.pieces.now c.loop-rest.rest.now c.in-Some.behind.now c.onward-rest.result.now (state_seen c.loop-rest.state) (state_seen c.pass.new.self) c.in-Some.passed c.loop-rest.invariant.led e.0 c.in_ok-pass.ensures
    c.onward-rest.ensures (omega (arith, h))).smaller

pub loop-rest-preserved : goal.loop-rest-preserved
loop-rest-preserved c =
    let h = c.loop-rest.invariant.within in
    let e = rw c.in-Some.is at c.in_ok-passed.ensures in
    let t = turned c.args.pieces.now c.loop-rest.rest.now c.in-Some.behind.now c.onward-rest.result.now (state_seen c.loop-rest.state) (state_seen c.pass.new.self) c.in-Some.passed c.loop-rest.invariant.led e.0 c.in_ok-pass.ensures
    c.onward-rest.ensures (omega (arith, h)) in
    record { led = t.led; within = t.within }

pub returns : goal.returns
returns c = ended c.args.pieces.now c.loop-rest.rest.now (state_seen c.loop-rest.state) c.loop-rest.invariant.led (grind (arith, nat_tests, c.is_empty.ensures, c.loop-rest-test.false))

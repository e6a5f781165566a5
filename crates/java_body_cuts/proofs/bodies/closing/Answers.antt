use Rattle.std.proofs.Common.{◌≡◌, length, ◌∙◌, arith}
use Rattle.java_body_cuts.proofs.Insides.{closing_none}
use Rattle.java_body_cuts.proofs.bodies.closing.Goals as goal

pub returns-clause-found : goal.returns-clause-found
returns-clause-found c =
    let none : length c.loop-turn.rest.now ≡ 0 = omega arith in
    c.loop-turn.invariant.same ∙ closing_none _ _ none

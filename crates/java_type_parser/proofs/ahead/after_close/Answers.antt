use Rattle.std.proofs.Common.{◌≡◌, length, sym, ◌∙◌, arith}
use Rattle.java_type_parser.proofs.Rules.{after_none}
use Rattle.java_type_parser.proofs.ahead.after_close.Goals as goal

pub returns : goal.returns
returns c =
    let none : length c.loop-turn.rest.now ≡ 0 = omega arith in
    sym (c.loop-turn.invariant.same ∙ after_none _ _ none)

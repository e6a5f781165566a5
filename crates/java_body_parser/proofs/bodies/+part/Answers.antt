use Rattle.std.proofs.Common.{◌≡◌, ◌+◌, ◌-◌, subst, sym, arith}
use Rattle.java_type_parser.specs.Gives.{Gives}
use Rattle.java_token_cursor.specs.Shown.{shown}
use Rattle.java_block_parser.specs.Asks.{Shorter, part_found}
use Rattle.java_body_parser.proofs.Parts.{asked_more}
use Rattle.java_body_parser.proofs.bodies.+part.Goals as goal

pub returns : goal.returns
returns t c =
    let a : (c.args.steps - 1) + 1 ≡ c.args.steps = omega arith in
    let b : (c.args.depth - 1) + 1 ≡ c.args.depth = omega arith in
    subst (λ o. Gives part_found (Shorter c.args.pieces.now) o c.step.result) (sym (asked_more _ _ _ _ c.args.ask (shown c.args.pieces.now) a b)) c.step.ensures

use Rattle.std.proofs.Common.{rules, arith}
use Rattle.std.proofs.lemmas.Grind.{common_steps}
use Rattle.java_token_cursor.specs.Shown.{shown}
use Rattle.java_member_parser.proofs.Modified.{modifiers_end, modifiers_on}
use Rattle.java_member_parser.proofs.modifiers.modifiers.Goals as goal

pub loop-next-preserved : goal.loop-next-preserved
loop-next-preserved c =
    let e = modifiers_on (shown c.args.pieces.now) _ _ _ _ c.loop-next.invariant c.in-Some.ensures in
    first_of (search rules, grind (arith, common_steps))

pub returns : goal.returns
returns c = modifiers_end (shown c.args.pieces.now) _ _ c.loop-next.invariant c.in_default.ensures

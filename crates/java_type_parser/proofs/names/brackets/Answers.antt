use Rattle.std.proofs.Common.{rules, arith}
use Rattle.std.proofs.lemmas.Grind.{common_steps}
use Rattle.java_token_cursor.specs.Shown.{shown}
use Rattle.java_type_parser.proofs.Rules.{brackets_end, brackets_on}
use Rattle.java_type_parser.proofs.names.brackets.Goals as goal

pub loop-next-preserved : goal.loop-next-preserved
loop-next-preserved c =
    let e = brackets_on (shown c.args.pieces.now) _ _ _ _ c.loop-next.invariant c.in-Some.ensures in
    first_of (search rules, grind (arith, common_steps))

pub returns : goal.returns
returns c = brackets_end (shown c.args.pieces.now) _ _ c.loop-next.invariant c.in_default.ensures

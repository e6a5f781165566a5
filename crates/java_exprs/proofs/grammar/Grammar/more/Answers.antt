use Rattle.java_token_cursor.specs.Shown.{shown}
use Rattle.std.proofs.Common.{rules, arith}
use Rattle.std.proofs.lemmas.Grind.{common_steps}
use Rattle.java_expr_grammar.specs.Reading as r
use Rattle.java_expr_grammar.proofs.LawsToCite.{one_more, deepest_more}
use Rattle.java_exprs.specs.Exprs.{separator}
use Rattle.java_exprs.proofs.grammar.Grammar.more.Goals as goal

pub returns-in_default : goal.returns-in_default
unfolding r.more_by
returns-in_default g c =
    let e = one_more (λ n. r.more_by (separator c.args.in_braces) (r.read c.args.self.now.depth c.args.least) n c.loop-turn.found.items c.loop-turn.found.commas (shown c.loop-turn.pieces.now)) _ c.loop-turn._turn c.loop-turn-test.true c.loop-turn.invariant.same in
    first_of (search rules, grind (arith, common_steps))

pub loop-turn-preserved : goal.loop-turn-preserved
unfolding r.more_by
loop-turn-preserved g c =
    let e = one_more (λ n. r.more_by (separator c.args.in_braces) (r.read c.args.self.now.depth c.args.least) n c.loop-turn.found.items c.loop-turn.found.commas (shown c.loop-turn.pieces.now)) _ c.loop-turn._turn c.loop-turn-test.true c.loop-turn.invariant.same in
    record {
      same = first_of (search rules, grind (arith, common_steps));
      deepest = grind (arith, common_steps, deepest_more);
      within = grind (arith, common_steps);
    }

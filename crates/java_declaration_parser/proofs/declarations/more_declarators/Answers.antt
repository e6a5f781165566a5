use Rattle.std.proofs.Common.{rules, arith}
use Rattle.std.proofs.lemmas.Grind.{common_steps}
use Rattle.java_token_cursor.specs.Shown.{shown}
use Rattle.java_expr_grammar.specs.Reading as r
use Rattle.java_expr_grammar.proofs.LawsToCite.{one_more}
use Rattle.java_statement_grammar.specs.Reading as h
use Rattle.java_declaration_parser.proofs.declarations.more_declarators.Goals as goal

pub returns-in_default : goal.returns-in_default
unfolding r.more_by
returns-in_default c =
    let e = one_more (λ n. r.more_by r.comma (h.declarator_read c.args.depth) n c.loop-turn.found.items c.loop-turn.found.commas (shown c.loop-turn.pieces.now)) _ c.loop-turn._turn c.loop-turn-test.true c.loop-turn.invariant in
    first_of (search rules, grind (arith, common_steps))

pub loop-turn-preserved : goal.loop-turn-preserved
unfolding r.more_by
loop-turn-preserved c =
    let e = one_more (λ n. r.more_by r.comma (h.declarator_read c.args.depth) n c.loop-turn.found.items c.loop-turn.found.commas (shown c.loop-turn.pieces.now)) _ c.loop-turn._turn c.loop-turn-test.true c.loop-turn.invariant in
    first_of (search rules, grind (arith, common_steps))

use Rattle.std.proofs.Common.{rules, arith, ◌≡◌, suc, ◌-◌, subst, sym, add-one}
use Rattle.std.proofs.lemmas.Grind.{common_steps}
use Rattle.java_token_cursor.specs.Shown.{shown}
use Rattle.java_expr_grammar.specs.Reading as r
use Rattle.java_expr_grammar.proofs.LawsToCite.{one_more, deepest_more}
use Rattle.java_type_parser.specs.Gives.{Gives, TypeFits, type_found}
use Rattle.java_type_parser.proofs.Rules.{read_more}
use Rattle.java_type_parser.proofs.types.+types.Goals as goal

pub more_types-loop-turn-preserved : goal.more_types-loop-turn-preserved
unfolding r.more_by
more_types-loop-turn-preserved t c =
    let e = one_more (λ n. r.more_by r.comma (r.type_read c.args.depth) n c.loop-turn.found.items c.loop-turn.found.commas (shown c.loop-turn.pieces.now)) _ c.loop-turn._turn c.loop-turn-test.true c.loop-turn.invariant.same in
    record {
      same = first_of (search rules, grind (arith, common_steps));
      deepest = grind (arith, common_steps, deepest_more);
      within = grind (arith, common_steps);
    }

pub read_type-returns : goal.read_type-returns
read_type-returns t c =
    let e : suc (c.args.depth - 1) ≡ c.args.depth = omega arith in
    let h = rw c.in-Some.is at c.in_ok-found.ensures in
    let pairs = rw c.in-Ok.is at c.brackets.ensures in
    let same = read_more (c.args.depth - 1) (shown c.args.pieces.now) _ _ _ h.0 pairs in
    let given = rw (add-one (c.args.depth - 1)) at c.array_by.ensures in
    subst (λ n. Gives type_found (TypeFits n) (r.type_read n (shown c.args.pieces.now)) c.array_by.result) e
    (subst (λ o. Gives type_found (TypeFits (suc (c.args.depth - 1))) o c.array_by.result) (sym same) given)

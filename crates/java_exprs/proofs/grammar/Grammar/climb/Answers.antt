use Rattle.java_token_cursor.specs.Shown.{shown}
use Rattle.std.proofs.Common.{suc, ◌∙◌}
use Rattle.java_expr_grammar.specs.Reading as r
use Rattle.java_expr_grammar.proofs.LawsToCite.{one_more}
use Rattle.java_exprs.proofs.Turns.{done_turn, longer_turn}
use Rattle.java_exprs.proofs.grammar.Grammar.climb.Goals as goal

pub returns-then-not-is_longer : goal.returns-then-not-is_longer
returns-then-not-is_longer g c =
    let e = one_more (λ n. r.climb (r.type_read c.args.self.now.depth) (r.base_read (suc c.args.self.now.depth)) (r.typed_read c.args.self.now.depth) (r.read c.args.self.now.depth) c.args.self.now.depth c.args.least n c.loop-turn.left.tree (shown c.loop-turn.pieces.now)) _ c.loop-turn._turn c.loop-turn-test.true c.loop-turn.invariant.same in
    let h = rw c.in-Some.is at c.in_ok-next.ensures in
    (e ∙ done_turn _ _ _ _ _ _ _ _ h.0 c.if-not-is_longer.true, h.1)

pub loop-turn-preserved : goal.loop-turn-preserved
loop-turn-preserved g c =
    let e = one_more (λ n. r.climb (r.type_read c.args.self.now.depth) (r.base_read (suc c.args.self.now.depth)) (r.typed_read c.args.self.now.depth) (r.read c.args.self.now.depth) c.args.self.now.depth c.args.least n c.loop-turn.left.tree (shown c.loop-turn.pieces.now)) _ c.loop-turn._turn c.loop-turn-test.true c.loop-turn.invariant.same in
    let h = rw c.in-Some.is at c.in_ok-next.ensures in
    record {
      same = rw c.onward-pieces.ensures (e ∙ longer_turn _ _ _ _ _ _ _ _ h.0 c.if-not-is_longer.false);
      depth = h.1.0;
      within = h.1.1;
    }

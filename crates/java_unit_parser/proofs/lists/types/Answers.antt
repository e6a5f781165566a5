use Rattle.std.proofs.Common.{sym, ◌∙◌, arith}
use Rattle.java_unit_grammar.specs.Reading as r
use Rattle.java_block_parser.proofs.LawsToCite.{stopped, ended, stuck, longer}
use Rattle.java_unit_parser.proofs.lists.types.Goals as goal

pub returns-then-is_end : goal.returns-then-is_end
returns-then-is_end c = (stopped r.is_end (r.file_read c.args.types) _ _ _ _ c.loop-turn.invariant.same (sym c.is_end.ensures ∙ c.if-is_end.true), c.loop-turn.invariant.shorter)

pub returns-in_default : goal.returns-in_default
returns-in_default c = stuck r.is_end (r.file_read c.args.types) _ _ _ _ c.loop-turn.invariant.same (sym c.is_end.ensures ∙ c.if-is_end.false) (rw c.in_default.is at c.in_ok-item.ensures)

pub loop-turn-preserved : goal.loop-turn-preserved
loop-turn-preserved c =
    let h = rw c.in-Some.is at c.in_ok-item.ensures in
    record {
      same = rw c.onward-pieces.ensures (rw c.in_ok-push.ensures.ok (rw c.into_inner.ensures (longer r.is_end (r.file_read c.args.types) _ _ c.loop-turn._turn _ _ _ _ c.loop-turn-test.true c.loop-turn.invariant.same (sym c.is_end.ensures ∙ c.if-is_end.false) h.0)));
      shorter = rw c.onward-pieces.ensures (let k = h.1 in omega (arith, k));
    }

pub returns-then-is_end-2 : goal.returns-then-is_end-2
returns-then-is_end-2 c = (stopped r.is_end (r.file_read c.args.types) _ _ _ _ c.loop-turn.invariant.same (sym c.is_end-2.ensures ∙ c.if-is_end-2.true), c.loop-turn.invariant.shorter)

pub returns : goal.returns
returns c = ended r.is_end (r.file_read c.args.types) _ _ c.loop-turn._turn _ _ c.loop-turn-test.false c.loop-turn.invariant.same (sym c.is_end-2.ensures ∙ c.if-is_end-2.false)

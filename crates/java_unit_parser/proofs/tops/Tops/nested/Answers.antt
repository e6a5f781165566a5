use Rattle.std.proofs.Common.{sym, ◌∙◌, arith}
use Rattle.java_modifier_rules.specs.Fits.{owner_seen}
use Rattle.java_unit_grammar.specs.Reading as r
use Rattle.java_block_parser.proofs.LawsToCite.{stopped, ended, stuck, longer}
use Rattle.java_unit_parser.proofs.tops.Tops.nested.Goals as goal

pub returns-then-begins_close : goal.returns-then-begins_close
returns-then-begins_close g c = (stopped r.begins_close (r.tops c.args.self.now.types (owner_seen c.args.owner)) _ _ _ _ c.loop-turn.invariant.same (sym c.begins_close.ensures ∙ c.if-begins_close.true), c.loop-turn.invariant.shorter)

pub returns-in_default : goal.returns-in_default
returns-in_default g c = stuck r.begins_close (r.tops c.args.self.now.types (owner_seen c.args.owner)) _ _ _ _ c.loop-turn.invariant.same (sym c.begins_close.ensures ∙ c.if-begins_close.false) (rw c.in_default.is at c.in_ok-item.ensures)

pub loop-turn-preserved : goal.loop-turn-preserved
loop-turn-preserved g c =
    let h = rw c.in-Some.is at c.in_ok-item.ensures in
    record {
      same = rw c.onward-pieces.ensures (rw c.in_ok-push.ensures.ok (rw c.into_inner.ensures (longer r.begins_close (r.tops c.args.self.now.types (owner_seen c.args.owner)) _ _ c.loop-turn._turn _ _ _ _ c.loop-turn-test.true c.loop-turn.invariant.same (sym c.begins_close.ensures ∙ c.if-begins_close.false) h.0)));
      shorter = rw c.onward-pieces.ensures (let k = h.1 in omega (arith, k));
    }

pub returns-then-begins_close-2 : goal.returns-then-begins_close-2
returns-then-begins_close-2 g c = (stopped r.begins_close (r.tops c.args.self.now.types (owner_seen c.args.owner)) _ _ _ _ c.loop-turn.invariant.same (sym c.begins_close-2.ensures ∙ c.if-begins_close-2.true), c.loop-turn.invariant.shorter)

pub returns : goal.returns
returns g c = ended r.begins_close (r.tops c.args.self.now.types (owner_seen c.args.owner)) _ _ c.loop-turn._turn _ _ c.loop-turn-test.false c.loop-turn.invariant.same (sym c.begins_close-2.ensures ∙ c.if-begins_close-2.false)

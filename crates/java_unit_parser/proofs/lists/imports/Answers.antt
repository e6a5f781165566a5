use Rattle.std.proofs.Common.{sym, ◌∙◌, arith}
use Rattle.java_unit_grammar.specs.Reading as r
use Rattle.java_block_parser.proofs.LawsToCite.{stopped, ended, stuck, longer}
use Rattle.java_unit_parser.proofs.lists.imports.Goals as goal

pub returns-then-ends_imports : goal.returns-then-ends_imports
returns-then-ends_imports c = (stopped r.no_import r.import_read _ _ _ _ c.loop-turn.invariant.same (sym c.ends_imports.ensures ∙ c.if-ends_imports.true), c.loop-turn.invariant.shorter)

pub returns-in_default : goal.returns-in_default
returns-in_default c = stuck r.no_import r.import_read _ _ _ _ c.loop-turn.invariant.same (sym c.ends_imports.ensures ∙ c.if-ends_imports.false) (rw c.in_default.is at c.in_ok-item.ensures)

pub loop-turn-preserved : goal.loop-turn-preserved
loop-turn-preserved c =
    let h = rw c.in-Some.is at c.in_ok-item.ensures in
    record {
      same = rw c.onward-pieces.ensures (rw c.in_ok-push.ensures.ok (longer r.no_import r.import_read _ _ c.loop-turn._turn _ _ _ _ c.loop-turn-test.true c.loop-turn.invariant.same (sym c.ends_imports.ensures ∙ c.if-ends_imports.false) h.0));
      shorter = rw c.onward-pieces.ensures (let k = h.1 in omega (arith, k));
    }

pub returns-then-ends_imports-2 : goal.returns-then-ends_imports-2
returns-then-ends_imports-2 c = (stopped r.no_import r.import_read _ _ _ _ c.loop-turn.invariant.same (sym c.ends_imports-2.ensures ∙ c.if-ends_imports-2.true), c.loop-turn.invariant.shorter)

pub returns : goal.returns
returns c = ended r.no_import r.import_read _ _ c.loop-turn._turn _ _ c.loop-turn-test.false c.loop-turn.invariant.same (sym c.ends_imports-2.ensures ∙ c.if-ends_imports-2.false)

use Rattle.std.proofs.Common.{◌≡◌, ◌+◌, ◌-◌, List, [], ◌∷◌, ◌++◌, length, sym, ◌∙◌, subst, rules, arith}
use Rattle.std.proofs.lemmas.Grind.{common_steps}
use Rattle.java_unit_grammar.specs.Reading as r
use Rattle.java_token_cursor.specs.Shown.{shown}
use Rattle.java_block_parser.specs.Asks.{onto}
use Rattle.java_unit_grammar.specs.declared.statements.JCatch.{JCatch}
use Rattle.java_block_parser.proofs.Many.{stopped, ended, stuck, longer}
use Rattle.java_block_parser.proofs.grammar.Grammar.catches.Goals as goal

pub returns-then-stops : goal.returns-then-stops
returns-then-stops g c = (stopped r.no_catch (r.catch_read (r.readers c.args.self.now.steps) c.args.self.now.depth) _ _ _ _ c.loop-turn.invariant.same (sym c.stops.ensures ∙ c.if-stops.true), c.loop-turn.invariant.shorter)

pub returns-in_default : goal.returns-in_default
returns-in_default g c = stuck r.no_catch (r.catch_read (r.readers c.args.self.now.steps) c.args.self.now.depth) _ _ _ _ c.loop-turn.invariant.same (sym c.stops.ensures ∙ c.if-stops.false) (rw c.in_default.is at c.in_ok-item.ensures)

pub loop-turn-preserved : goal.loop-turn-preserved
loop-turn-preserved g c =
    let h = rw c.in-Some.is at c.in_ok-item.ensures in
    let more : c.push.new.self ≡ c.loop-turn.items ++ c.in-Some.item ∷ [] = first_of (search rules, grind (arith, common_steps)) in
    record {
      same =
          rw c.onward-pieces.ensures
          (subst (λ (xs : List JCatch). r.many r.no_catch (r.catch_read (r.readers c.args.self.now.steps) c.args.self.now.depth) (length (shown c.args.pieces.now)) (shown c.args.pieces.now) ≡ onto xs (r.many r.no_catch (r.catch_read (r.readers c.args.self.now.steps) c.args.self.now.depth) (length c.args.pieces.now - (c.loop-turn._turn + 1)) (shown c.in-Some.rest.now))) (sym more)
          (longer r.no_catch (r.catch_read (r.readers c.args.self.now.steps) c.args.self.now.depth) _ _ c.loop-turn._turn _ _ _ _ c.loop-turn-test.true c.loop-turn.invariant.same (sym c.stops.ensures ∙ c.if-stops.false) h.0));
      shorter = rw c.onward-pieces.ensures (let k = h.1 in omega (arith, k));
    }

pub returns-then-stops-2 : goal.returns-then-stops-2
returns-then-stops-2 g c = (stopped r.no_catch (r.catch_read (r.readers c.args.self.now.steps) c.args.self.now.depth) _ _ _ _ c.loop-turn.invariant.same (sym c.stops-2.ensures ∙ c.if-stops-2.true), c.loop-turn.invariant.shorter)

pub returns : goal.returns
returns g c = ended r.no_catch (r.catch_read (r.readers c.args.self.now.steps) c.args.self.now.depth) _ _ c.loop-turn._turn _ _ c.loop-turn-test.false c.loop-turn.invariant.same (sym c.stops-2.ensures ∙ c.if-stops-2.false)

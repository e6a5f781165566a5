use Rattle.std.proofs.Common.{◌+◌, sym, ◌∙◌, ap, drop, subst, arith}
use Rattle.kotlin_grammar.specs.Ahead.{arguments_follow as arguments_follow_of, opens}
use Rattle.kotlin_kinds.specs.Turns.{turn_gives, Few}
use Rattle.kotlin_kinds.proofs.Look.{args_more, args_out, opens_there}
use Rattle.kotlin_kinds.proofs.spots.arguments_ahead.Goals as goal

pub returns-in-Ended : goal.returns-in-Ended
returns-in-Ended c = c.opens_at.ensures ∙ sym (opens_there c.args.letters.now (c.loop-i.i + 1)) ∙ sym (args_more c.loop-i.spot c.loop-i.depth c.args.letters.now c.loop-i.i c.turned_there.result c.turned_there.ensures.is
    ∙ ap (λ u. turn_gives u (λ q m. arguments_follow_of q m (drop (c.loop-i.i + 1) c.args.letters.now)) (opens (drop (c.loop-i.i + 1) c.args.letters.now))) c.in-Ended.is) ∙ c.loop-i.invariant.told

pub returns-in-Out : goal.returns-in-Out
returns-in-Out c = sym (args_more c.loop-i.spot c.loop-i.depth c.args.letters.now c.loop-i.i c.turned_there.result c.turned_there.ensures.is
    ∙ ap (λ u. turn_gives u (λ q m. arguments_follow_of q m (drop (c.loop-i.i + 1) c.args.letters.now)) (opens (drop (c.loop-i.i + 1) c.args.letters.now))) c.in-Out.is) ∙ c.loop-i.invariant.told

pub returns : goal.returns
returns c = sym (args_out c.loop-i.spot c.loop-i.depth c.args.letters.now c.loop-i.i (omega (arith, c.len-i-end.ensures, c.loop-i-test.false))) ∙ c.loop-i.invariant.told

pub loop-i-preserved : goal.loop-i-preserved
loop-i-preserved c = record {
  told = sym (args_more c.loop-i.spot c.loop-i.depth c.args.letters.now c.loop-i.i c.turned_there.result c.turned_there.ensures.is
      ∙ ap (λ u. turn_gives u (λ q m. arguments_follow_of q m (drop (c.loop-i.i + 1) c.args.letters.now)) (opens (drop (c.loop-i.i + 1) c.args.letters.now))) c.in-Go.is) ∙ c.loop-i.invariant.told;
  within = omega (arith, subst (Few c.loop-i.depth) c.in-Go.is c.turned_there.ensures.few, c.loop-i.invariant.within);
}

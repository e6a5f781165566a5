use Rattle.std.proofs.Common.{◌+◌, sym, ◌∙◌, ap, drop, arith}
use Rattle.kotlin_grammar.specs.Ahead.{names_follow as names_follow_of}
use Rattle.kotlin_kinds.specs.Turns.{names_give}
use Rattle.kotlin_kinds.proofs.Look.{names_more, names_out}
use Rattle.kotlin_kinds.proofs.names.names_follow.Goals as goal

pub returns-in-Yes : goal.returns-in-Yes
returns-in-Yes c = sym (names_more c.loop-i.was c.args.letters.now c.loop-i.i c.names_there.result c.names_there.ensures
    ∙ ap (λ u. names_give u (λ b. names_follow_of b (drop (c.loop-i.i + 1) c.args.letters.now))) c.in-Yes.is) ∙ c.loop-i.invariant.told

pub returns-in-No : goal.returns-in-No
returns-in-No c = sym (names_more c.loop-i.was c.args.letters.now c.loop-i.i c.names_there.result c.names_there.ensures
    ∙ ap (λ u. names_give u (λ b. names_follow_of b (drop (c.loop-i.i + 1) c.args.letters.now))) c.in-No.is) ∙ c.loop-i.invariant.told

pub loop-i-preserved : goal.loop-i-preserved
loop-i-preserved c = record {
  told = sym (names_more c.loop-i.was c.args.letters.now c.loop-i.i c.names_there.result c.names_there.ensures
      ∙ ap (λ u. names_give u (λ b. names_follow_of b (drop (c.loop-i.i + 1) c.args.letters.now))) c.in-Go.is) ∙ c.loop-i.invariant.told;
}

pub returns : goal.returns
returns c = sym (names_out c.loop-i.was c.args.letters.now c.loop-i.i (omega (arith, c.len-i-end.ensures, c.loop-i-test.false))) ∙ c.loop-i.invariant.told

use Rattle.std.proofs.Common.{◌∷◌, length, refl, ap, ◌∙◌, arith}
use Rattle.kotlin_grammar.specs.Ahead.{letter, letter_by}
use Rattle.kotlin_kinds.proofs.Look.{none_yet, one_more}
use Rattle.kotlin_kinds.proofs.lettering.letters.Goals as goal

pub loop-i-init : goal.loop-i-init
loop-i-init c = record {
  told = none_yet c.args.tokens.now c.new-letters.result c.new-letters.ensures;
  count = ap length c.new-letters.ensures;
}

pub loop-i-preserved : goal.loop-i-preserved
loop-i-preserved c =
    let one = ap (λ l. l ∷ c.loop-i.letters) (c.letter.ensures ∙ ap (λ k. letter_by k c.in_ok-token.token) c.kind_of-kind.ensures ∙ ap (λ t. letter t c.loop-i.letters) c.in_ok-token.ensures) in
    record {
      told = c.in_ok-push.ensures ∙ one ∙ one_more c.args.tokens.now (length c.args.tokens.now) c.loop-i.i c.index-tokens-tokens.result c.loop-i.letters refl c.loop-i-test.true c.index-tokens-tokens.is c.loop-i.invariant.told;
      count = ap length c.in_ok-push.ensures ∙ omega (arith, c.loop-i.invariant.count);
    }

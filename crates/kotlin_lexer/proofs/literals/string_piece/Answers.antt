use Rattle.std.proofs.Common.{◌∙◌, arith}
use Rattle.kotlin_characters.specs.Letters.{letters}
use Rattle.kotlin_lexer.proofs.Strings.{one_more}
use Rattle.kotlin_lexer.proofs.literals.string_piece.Goals as goal

pub letters-preserved : goal.letters-preserved
letters-preserved c = record {
  value =
      one_more c.args.position c.letters.units c.push.new.self (letters c.args.bytes.now c.letters.next) c.in-Letter.letter c.letters.next.position
      (letters c.args.bytes.now c.in-Letter.after) (letters c.args.bytes.now c.skip-next.result) c.in-Unit.unit c.in-Unit.more
      c.in-Letter.ensures.value c.in-Unit.ensures c.skip-next.ensures.rest c.in_ok-push-in-Unit.ensures.ok
      ∙ c.letters.invariant.value;
  next = (c.skip-next.ensures.next.0, omega (arith, c.skip-next.ensures.next.1, c.in-Letter.ensures.goes_on.1));
}

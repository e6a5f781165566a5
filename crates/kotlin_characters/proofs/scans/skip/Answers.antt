use Rattle.std.proofs.Common.{◌-◌, ◌+◌, ◌∙◌, ap, arith}
use Rattle.kotlin_characters.specs.Letters.{letters}
use Rattle.kotlin_characters.specs.Scans.{drop_letters}
use Rattle.kotlin_characters.proofs.Runs.{drop_more}
use Rattle.kotlin_characters.proofs.scans.skip.Goals as goal

pub loop-preserved : goal.loop-preserved
loop-preserved c = record {
  rest =
      ap (drop_letters (c.args.count - (c.loop.counter + 1))) c.tail_at-next.ensures.rest
      ∙ (drop_more c.args.count c.loop.counter (letters c.args.bytes.now c.loop.next) c.loop-test.true ∙ c.loop.invariant.rest);
  next = (c.tail_at-next.ensures.next.0, omega arith);
}

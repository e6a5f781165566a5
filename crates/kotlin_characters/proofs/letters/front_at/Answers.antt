use Rattle.std.proofs.Common.{arith, sym, ◌∙◌, ap}
use Rattle.kotlin_characters.specs.Letters.{letter, letters}
use Rattle.kotlin_characters.proofs.Steps.{goes_on, at_end, at_byte, takes_some}
use Rattle.kotlin_characters.proofs.letters.front_at.Goals as goal

pub returns-in-Some-clause-value : goal.returns-in-Some-clause-value
returns-in-Some-clause-value c =
    goes_on c.args.bytes.now c.args.at c.in-Some.character c.in-Some.ensures.value (takes_some c.in-Some.character)
    ∙ ap (λ q. letter c.in-Some.character c.args.at.position (letters c.args.bytes.now q)) (sym c.past.ensures.value)

pub returns-then-at-bytes-clause-value : goal.returns-then-at-bytes-clause-value
returns-then-at-bytes-clause-value c = at_byte c.args.bytes.now c.args.at c.in-None.ensures.value c.if-at-bytes.true

pub returns-else-at-bytes-clause-value : goal.returns-else-at-bytes-clause-value
returns-else-at-bytes-clause-value c = at_end c.args.bytes.now c.args.at (omega arith)

use Rattle.std.proofs.Common.{sym, ◌∙◌, ap}
use Rattle.java_characters.specs.Letters.{stop, raw_at}
use Rattle.java_characters.proofs.Steps.{final_step, inner_step}
use Rattle.java_characters.proofs.letters.last_front.Goals as goal

pub returns-in-Stop-clause-value : goal.returns-in-Stop-clause-value
returns-in-Stop-clause-value c =
    final_step c.args.bytes.now c.args.at c.args.next c.args.at.position c.in-Stop.end c.in-Stop.ending c.requires.letter c.in-Stop.ensures.value
    ∙ ap (λ q. stop c.in-Stop.ending q) (sym c.end_without.ensures)

pub returns-in-Letter-clause-value : goal.returns-in-Letter-clause-value
returns-in-Letter-clause-value c =
    inner_step c.args.bytes.now c.args.at c.args.next 26 c.in-Letter.field-0 c.args.at.position c.args.next.position (raw_at c.args.bytes.now c.in-Letter.field-1) c.requires.letter c.in-Letter.ensures.value

use Rattle.std.proofs.Common.{sym, ◌∙◌, ap}
use Rattle.java_characters.specs.declared.letters.RawFront.TheVariants.{Stop, Plain, Escaped}
use Rattle.java_characters.specs.Letters.{letter, raw_at}
use Rattle.java_characters.proofs.Steps.{raw_step}
use Rattle.java_characters.proofs.letters.raw_at.Goals as goal

pub returns-in-Stop-clause-value : goal.returns-in-Stop-clause-value
returns-in-Stop-clause-value c = raw_step c.args.bytes.now c.args.at (Stop c.in-Stop.ending) c.in-Stop.ensures.value c.in-Stop.ensures.takes

pub returns-in-Plain-clause-value : goal.returns-in-Plain-clause-value
returns-in-Plain-clause-value c =
    raw_step c.args.bytes.now c.args.at (Plain c.in-Plain.code c.in-Plain.taken) c.in-Plain.ensures.value c.in-Plain.ensures.takes
    ∙ ap (λ q. letter c.in-Plain.code c.args.at.position (raw_at c.args.bytes.now q)) (sym c.past_plain.ensures.value)

pub returns-in-Escaped-clause-value : goal.returns-in-Escaped-clause-value
returns-in-Escaped-clause-value c =
    raw_step c.args.bytes.now c.args.at (Escaped c.in-Escaped.code c.in-Escaped.taken) c.in-Escaped.ensures.value c.in-Escaped.ensures.takes
    ∙ ap (λ q. letter c.in-Escaped.code c.args.at.position (raw_at c.args.bytes.now q)) (sym c.past_escape.ensures.value)

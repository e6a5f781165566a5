use Rattle.std.proofs.lemmas.Bool.{ne_eqb}
use Rattle.java_characters.proofs.Steps.{stop_step, letter_step}
use Rattle.java_characters.proofs.letters.front_at.Goals as goal

pub returns-in-Stop-clause-value : goal.returns-in-Stop-clause-value
returns-in-Stop-clause-value c = stop_step c.args.bytes.now c.args.at c.in-Stop.ending c.in-Stop.end c.in-Stop.ensures.value

pub returns-else-code-eq26-clause-value : goal.returns-else-code-eq26-clause-value
returns-else-code-eq26-clause-value c =
    letter_step c.args.bytes.now c.args.at c.in-Letter.next c.in-Letter.code c.args.at.position c.in-Letter.ensures.value (ne_eqb c.in-Letter.code 26 c.if-code-eq26.false)

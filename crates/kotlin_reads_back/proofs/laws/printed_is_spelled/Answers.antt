use Rattle.kotlin_reads_back.proofs.Joined.{printed_spelled}
use Rattle.kotlin_reads_back.proofs.laws.printed_is_spelled.Goals as goal

pub returns : goal.returns
returns c = λ x is. printed_spelled c.text_is_lexed.ensures x is

use Rattle.kotlin_reads_back.proofs.Joined.{settled_read, only_settled}
use Rattle.kotlin_reads_back.proofs.laws.settled_reads_back.Goals as goal

pub returns : goal.returns
returns c = record {
  spelled = λ x is settled. settled_read c.text_is_lexed.ensures x is settled;
  alone = λ x z is settled spelled. only_settled c.text_is_lexed.ensures c.one_file.ensures x z is settled spelled;
}

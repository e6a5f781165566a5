use Rattle.meanings.proofs.Answers.{answer_says}
use Rattle.meanings.proofs.laws.changes_only_what_it_says.Goals as goal

pub returns : goal.returns
returns c = answer_says

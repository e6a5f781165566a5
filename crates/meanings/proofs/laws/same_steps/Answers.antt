use Rattle.meanings.proofs.Headline.{same_steps}
use Rattle.meanings.proofs.laws.same_steps.Goals as goal

pub returns : goal.returns
returns c = same_steps

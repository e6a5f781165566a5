use Rattle.kotlin_brackets.proofs.Promises.{inside, inside_paired}
use Rattle.kotlin_brackets.proofs.laws.pairs_nest.Goals as goal

pub returns : goal.returns
returns c = record { partners = inside; paired = inside_paired }

use Rattle.kotlin_canonical_text.proofs.Heads.{head_spelled}
use Rattle.kotlin_canonical_text.proofs.laws.head_is_spelled.Goals as goal

pub returns : goal.returns
returns c = λ x readable. head_spelled x readable

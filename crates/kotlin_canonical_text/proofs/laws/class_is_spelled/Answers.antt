use Rattle.kotlin_canonical_text.proofs.Classes.{class_spelled}
use Rattle.kotlin_canonical_text.proofs.laws.class_is_spelled.Goals as goal

pub returns : goal.returns
returns c = λ x readable. class_spelled x readable

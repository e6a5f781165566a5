use Rattle.kotlin_canonical_text.proofs.Derived.{type_derived}
use Rattle.kotlin_canonical_text.proofs.laws.type_is_derived.Goals as goal

pub returns : goal.returns
returns c = λ x readable. type_derived x readable

use Rattle.kotlin_canonical_text.proofs.Derived.{expression_derived}
use Rattle.kotlin_canonical_text.proofs.laws.expression_is_derived.Goals as goal

pub returns : goal.returns
returns c = λ x readable. expression_derived x readable

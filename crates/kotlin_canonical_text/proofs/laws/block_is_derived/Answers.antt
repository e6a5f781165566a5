use Rattle.kotlin_canonical_text.proofs.Derived.{block_derived}
use Rattle.kotlin_canonical_text.proofs.laws.block_is_derived.Goals as goal

pub returns : goal.returns
returns c = λ xs readable. block_derived xs readable

use Rattle.kotlin_types.proofs.Sameness.{equal_same, same_tells}
use Rattle.kotlin_types.proofs.laws.same_is_equal.Goals as goal

pub returns : goal.returns
returns c = λ x y. (same_tells x y, equal_same x y)

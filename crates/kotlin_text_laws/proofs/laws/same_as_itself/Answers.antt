use Rattle.std.proofs.Common.{refl}
use Rattle.kotlin_text_laws.proofs.laws.same_as_itself.Goals as goal

pub returns : goal.returns
returns c = λ x. refl

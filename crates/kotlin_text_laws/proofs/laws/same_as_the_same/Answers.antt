use Rattle.std.proofs.Common.{◌∙◌}
use Rattle.kotlin_text_laws.proofs.laws.same_as_the_same.Goals as goal

pub returns : goal.returns
returns c = λ x y z one other. one ∙ other

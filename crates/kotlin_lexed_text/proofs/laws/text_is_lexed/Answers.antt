use Rattle.kotlin_lexed_text.proofs.Cutting.{roles_lexed}
use Rattle.kotlin_lexed_text.proofs.laws.text_is_lexed.Goals as goal

pub returns : goal.returns
returns c = λ xs parts is. roles_lexed c.decodes.ensures xs parts is

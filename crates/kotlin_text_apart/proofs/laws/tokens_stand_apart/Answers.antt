use Rattle.kotlin_text_apart.proofs.Files.{file_apart}
use Rattle.kotlin_text_apart.proofs.laws.tokens_stand_apart.Goals as goal

pub returns : goal.returns
returns c = λ x. file_apart x

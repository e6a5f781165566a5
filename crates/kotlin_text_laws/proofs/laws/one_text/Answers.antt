use Rattle.kotlin_text_laws.proofs.Files.{one_text}
use Rattle.kotlin_text_laws.proofs.laws.one_text.Goals as goal

pub returns : goal.returns
returns c = λ x y same. one_text x y same

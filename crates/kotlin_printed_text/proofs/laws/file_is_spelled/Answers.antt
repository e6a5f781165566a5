use Rattle.kotlin_printed_text.proofs.Files.{file_spelled}
use Rattle.kotlin_printed_text.proofs.laws.file_is_spelled.Goals as goal

pub returns : goal.returns
returns c = λ x readable. file_spelled x readable

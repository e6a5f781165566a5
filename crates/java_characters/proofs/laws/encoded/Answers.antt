use Rattle.java_characters.proofs.Utf8.{encoded}
use Rattle.java_characters.proofs.laws.encoded.Goals as goal

pub returns : goal.returns
returns c = λ a d n bs. encoded a bs d n

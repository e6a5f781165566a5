use Rattle.kotlin_spelling.proofs.Once.{one_file}
use Rattle.kotlin_spelling.proofs.laws.one_file.Goals as goal

pub returns : goal.returns
returns c = one_file

use Rattle.kotlin_lexer.proofs.Scanned.{longest}
use Rattle.kotlin_lexer.proofs.laws.longest_runs.Goals as goal

pub returns : goal.returns
returns c = longest

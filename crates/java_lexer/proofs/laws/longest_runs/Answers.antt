use Rattle.java_lexer.proofs.Scanned.{longest}
use Rattle.java_lexer.proofs.laws.longest_runs.Goals as goal

pub returns : goal.returns
returns c = longest

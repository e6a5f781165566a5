use Rattle.java_token_cursor.proofs.NothingLost.{nothing}
use Rattle.java_token_cursor.proofs.laws.nothing_lost.Goals as goal

pub returns : goal.returns
returns c = nothing

use Rattle.java_taken.proofs.Taken.{taken}
use Rattle.java_taken.proofs.laws.is_taken.Goals as goal

pub returns : goal.returns
returns c classes earlier x f text is spells = (taken classes earlier x f text is spells).taken

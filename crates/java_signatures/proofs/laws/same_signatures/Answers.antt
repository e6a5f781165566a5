use Rattle.java_signatures.proofs.Same.{signature_decides}
use Rattle.java_signatures.proofs.laws.same_signatures.Goals as goal

pub returns : goal.returns
returns c = signature_decides

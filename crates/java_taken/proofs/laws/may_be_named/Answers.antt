use Rattle.java_taken.proofs.Taken.{may_be_named}
use Rattle.java_taken.proofs.laws.may_be_named.Goals as goal

pub returns : goal.returns
returns c = may_be_named

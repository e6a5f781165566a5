use Rattle.java_lib.proofs.Facts.{members_apart}
use Rattle.java_lib.proofs.laws.members_of_classes.Goals as goal

pub returns-clause-differ : goal.returns-clause-differ
returns-clause-differ c = members_apart

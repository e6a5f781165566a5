use Rattle.java_profile.proofs.Forms.{locked_faults}
use Rattle.java_profile.proofs.laws.values_are_no_locks.Goals as goal

pub returns : goal.returns
returns c = record { refused = locked_faults }

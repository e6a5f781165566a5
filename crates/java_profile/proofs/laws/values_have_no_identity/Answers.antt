use Rattle.java_profile.proofs.Forms.{same_faults}
use Rattle.java_profile.proofs.laws.values_have_no_identity.Goals as goal

pub returns : goal.returns
returns c = record { refused = same_faults }

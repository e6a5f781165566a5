use Rattle.java_profile.proofs.Forms.{through_faults}
use Rattle.java_profile.proofs.laws.statics_are_reached_by_classes.Goals as goal

pub returns : goal.returns
returns c = record { refused = through_faults }

use Rattle.java_profile.proofs.Unset.{none_unset}
use Rattle.java_profile.proofs.laws.no_static_is_unset.Goals as goal

pub returns : goal.returns
returns c = none_unset

use Rattle.java_members.proofs.Above.{sound}
use Rattle.java_members.proofs.laws.what_is_accessible.Goals as goal

pub returns : goal.returns
returns c = sound

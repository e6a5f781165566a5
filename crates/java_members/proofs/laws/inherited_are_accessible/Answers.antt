use Rattle.java_members.proofs.Accessible.{accessible}
use Rattle.java_members.proofs.laws.inherited_are_accessible.Goals as goal

pub returns : goal.returns
returns c = accessible

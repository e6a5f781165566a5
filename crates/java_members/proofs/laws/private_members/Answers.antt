use Rattle.java_members.proofs.Accessible.{of_itself}
use Rattle.java_members.proofs.laws.private_members.Goals as goal

pub returns : goal.returns
returns c = of_itself

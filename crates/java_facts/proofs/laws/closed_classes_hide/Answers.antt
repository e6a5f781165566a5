use Rattle.java_facts.proofs.Runs.{closed_hides}
use Rattle.java_facts.proofs.laws.closed_classes_hide.Goals as goal

pub returns : goal.returns
returns c = record { hides = closed_hides }

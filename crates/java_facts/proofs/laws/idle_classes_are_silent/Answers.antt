use Rattle.java_facts.proofs.Runs.{idle_is_silent}
use Rattle.java_facts.proofs.laws.idle_classes_are_silent.Goals as goal

pub returns : goal.returns
returns c = record { nothing = idle_is_silent }

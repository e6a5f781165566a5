use Rattle.java_facts.proofs.Runs.{calm_runs_nothing_else}
use Rattle.java_facts.proofs.laws.calm_classes_run_nothing_else.Goals as goal

pub returns : goal.returns
returns c = record { statics = calm_runs_nothing_else }

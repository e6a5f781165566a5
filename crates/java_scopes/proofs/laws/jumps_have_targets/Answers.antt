use Rattle.java_scopes.proofs.Targets.{break_has_target, break_is_taken, continue_has_target, continue_is_taken}
use Rattle.java_scopes.proofs.laws.jumps_have_targets.Goals as goal

pub returns-clause-breaks : goal.returns-clause-breaks
returns-clause-breaks c = λ frames. (break_has_target frames, break_is_taken frames)

pub returns-clause-continues : goal.returns-clause-continues
returns-clause-continues c = λ frames. (continue_has_target frames, continue_is_taken frames)

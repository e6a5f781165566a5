use Rattle.kotlin_flow.proofs.Noted.{locals_kept, result_comes}
use Rattle.kotlin_flow.proofs.laws.members_are_kept.Goals as goal

pub returns-clause-locals : goal.returns-clause-locals
returns-clause-locals c = locals_kept

pub returns-clause-results : goal.returns-clause-results
returns-clause-results c = result_comes

use Rattle.kotlin_flow.proofs.Noted.{members_quiet, properties_quiet, companions_quiet}
use Rattle.kotlin_flow.proofs.laws.classes_are_kept.Goals as goal

pub returns-clause-members : goal.returns-clause-members
returns-clause-members c = members_quiet

pub returns-clause-properties : goal.returns-clause-properties
returns-clause-properties c = properties_quiet

pub returns-clause-companions : goal.returns-clause-companions
returns-clause-companions c = companions_quiet

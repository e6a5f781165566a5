use Rattle.meanings.proofs.Schedules.{never_torn_where_typed}
use Rattle.meanings.proofs.laws.never_torn.Goals as goal

pub returns : goal.returns
returns c = never_torn_where_typed

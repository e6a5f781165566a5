use Rattle.judged.proofs.Whole.{whole_cons, whole_each, whole_pair, whole_then}
use Rattle.judged.proofs.laws.is_whole.Goals as goal

pub returns-clause-next : goal.returns-clause-next
returns-clause-next g c = whole_then

pub returns-clause-pair : goal.returns-clause-pair
returns-clause-pair g c = whole_pair

pub returns-clause-cons : goal.returns-clause-cons
returns-clause-cons g c = whole_cons

pub returns-clause-each : goal.returns-clause-each
returns-clause-each g c = whole_each

use Rattle.kotlin_typing.proofs.Premises.{break_finds, continue_finds}
use Rattle.kotlin_typing.proofs.laws.jumps_find_their_loops.Goals as goal

pub returns-clause-broken : goal.returns-clause-broken
returns-clause-broken c = break_finds

pub returns-clause-continued : goal.returns-clause-continued
returns-clause-continued c = continue_finds

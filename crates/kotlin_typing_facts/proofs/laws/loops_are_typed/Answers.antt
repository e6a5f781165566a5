use Rattle.kotlin_typing_facts.proofs.Told.{do_told, for_told, range_told}
use Rattle.kotlin_typing_facts.proofs.laws.loops_are_typed.Goals as goal

pub returns-clause-walked : goal.returns-clause-walked
returns-clause-walked c = for_told

pub returns-clause-counted : goal.returns-clause-counted
returns-clause-counted c = range_told

pub returns-clause-tested_behind : goal.returns-clause-tested_behind
returns-clause-tested_behind c = do_told

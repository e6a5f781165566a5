use Rattle.java_facts.proofs.Runs.{touches_same, closed_same}
use Rattle.java_facts.proofs.laws.the_layout_keeps_facts.Goals as goal

pub returns-clause-touching : goal.returns-clause-touching
returns-clause-touching c = touches_same

pub returns-clause-closing : goal.returns-clause-closing
returns-clause-closing c = closed_same

use Rattle.java_facts.proofs.Pairs.{pair_only_so, pair_so}
use Rattle.java_facts.proofs.laws.accessors_are_pairs.Goals as goal

pub returns-clause-only : goal.returns-clause-only
returns-clause-only c = pair_only_so

pub returns-clause-each : goal.returns-clause-each
returns-clause-each c = pair_so

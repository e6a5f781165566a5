use Rattle.java_type_relations.proofs.Cycles.{acyclic_bounded}
use Rattle.java_type_relations.proofs.Subtyping.{bounded_by}
use Rattle.java_type_relations.proofs.laws.walks_are_long_enough.Goals as goal

pub returns-clause-acyclic : goal.returns-clause-acyclic
returns-clause-acyclic c = acyclic_bounded

pub returns-clause-heights : goal.returns-clause-heights
returns-clause-heights c = bounded_by

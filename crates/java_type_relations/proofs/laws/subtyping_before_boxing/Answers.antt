use Rattle.java_type_relations.proofs.Methods.{strict_first, takes}
use Rattle.java_type_relations.proofs.laws.subtyping_before_boxing.Goals as goal

pub returns-clause-takes : goal.returns-clause-takes
returns-clause-takes c = takes

pub returns-clause-first : goal.returns-clause-first
returns-clause-first c = strict_first

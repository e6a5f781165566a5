use Rattle.java_type_relations.proofs.Subtyping.{class_below_is, parameter_below_is}
use Rattle.java_type_relations.proofs.laws.subtypes_stand_below.Goals as goal

pub returns-clause-classes : goal.returns-clause-classes
returns-clause-classes c = class_below_is

pub returns-clause-parameters : goal.returns-clause-parameters
returns-clause-parameters c = parameter_below_is

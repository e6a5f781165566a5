use Rattle.java_type_relations.proofs.Ways.{supertype_is}
use Rattle.java_type_relations.proofs.laws.supertypes_stand_above.Goals as goal

pub returns : goal.returns
returns c = supertype_is

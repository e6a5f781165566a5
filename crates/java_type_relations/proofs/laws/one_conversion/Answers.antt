use Rattle.java_type_relations.proofs.Conversions.{subtype_alone, unboxed_alone}
use Rattle.java_type_relations.proofs.laws.one_conversion.Goals as goal

pub returns-clause-subtyping : goal.returns-clause-subtyping
returns-clause-subtyping c = subtype_alone

pub returns-clause-unboxing : goal.returns-clause-unboxing
returns-clause-unboxing c = unboxed_alone

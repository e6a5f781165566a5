use Rattle.java_type_names.proofs.Only.{is_only}
use Rattle.java_type_names.proofs.laws.one_class.Goals as goal

pub returns : goal.returns
returns c = is_only

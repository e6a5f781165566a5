use Rattle.java_unit_grammar.proofs.Bound.{enough}
use Rattle.java_unit_grammar.proofs.laws.enough_steps.Goals as goal

pub returns : goal.returns
returns c = enough

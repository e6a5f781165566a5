use Rattle.java_unit_grammar.proofs.Whole.{units_one}
use Rattle.java_unit_grammar.proofs.laws.one_unit.Goals as goal

pub returns : goal.returns
returns c = units_one

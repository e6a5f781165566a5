use Rattle.java_unit_grammar.proofs.Completeness.{statements_one}
use Rattle.java_unit_grammar.proofs.laws.one_block.Goals as goal

pub returns : goal.returns
returns c = statements_one

use Rattle.java_unit_grammar.proofs.Completeness.{members_one}
use Rattle.java_unit_grammar.proofs.laws.one_body.Goals as goal

pub returns : goal.returns
returns c = members_one

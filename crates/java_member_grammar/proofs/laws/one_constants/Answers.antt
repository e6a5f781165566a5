use Rattle.java_member_grammar.proofs.Theorem.{constants_one}
use Rattle.java_member_grammar.proofs.laws.one_constants.Goals as goal

pub returns : goal.returns
returns c = constants_one

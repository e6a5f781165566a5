use Rattle.java_member_grammar.proofs.Theorem.{type_head_one}
use Rattle.java_member_grammar.proofs.laws.one_type_head.Goals as goal

pub returns : goal.returns
returns c = type_head_one

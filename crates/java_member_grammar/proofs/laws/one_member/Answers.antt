use Rattle.java_member_grammar.proofs.Theorem.{member_one}
use Rattle.java_member_grammar.proofs.laws.one_member.Goals as goal

pub returns : goal.returns
returns c = member_one

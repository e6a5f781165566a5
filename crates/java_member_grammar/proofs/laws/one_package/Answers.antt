use Rattle.java_member_grammar.proofs.Theorem.{package_one}
use Rattle.java_member_grammar.proofs.laws.one_package.Goals as goal

pub returns : goal.returns
returns c = package_one

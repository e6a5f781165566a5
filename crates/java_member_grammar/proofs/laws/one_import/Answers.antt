use Rattle.java_member_grammar.proofs.Theorem.{import_one}
use Rattle.java_member_grammar.proofs.laws.one_import.Goals as goal

pub returns : goal.returns
returns c = import_one

use Rattle.java_fault_grammar.proofs.Completeness.{form_one}
use Rattle.java_fault_grammar.proofs.laws.one_form.Goals as goal

pub returns : goal.returns
returns c = form_one

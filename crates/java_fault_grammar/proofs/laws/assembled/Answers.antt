use Rattle.java_fault_grammar.proofs.Files.{spelled_assembled, spelled_read}
use Rattle.java_fault_grammar.proofs.laws.assembled.Goals as goal

pub returns : goal.returns
returns c = record { whole = spelled_assembled; read = spelled_read }

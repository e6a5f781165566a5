use Rattle.java_lexer.proofs.Scanned.{first_close, never_closed}
use Rattle.java_lexer.proofs.laws.first_close.Goals as goal

pub returns-clause-closed : goal.returns-clause-closed
returns-clause-closed c = first_close

pub returns-clause-unclosed : goal.returns-clause-unclosed
returns-clause-unclosed c = never_closed

use Rattle.java_class_numbers.proofs.Tables as tables
use Rattle.java_class_numbers.proofs.laws.rows_are.Goals as goal

pub returns : goal.returns
returns c = tables.rows_are

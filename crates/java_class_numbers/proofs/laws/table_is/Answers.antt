use Rattle.java_class_numbers.proofs.Tables as tables
use Rattle.java_class_numbers.proofs.laws.table_is.Goals as goal

pub returns : goal.returns
returns c = tables.table_is

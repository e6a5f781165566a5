use Rattle.java_class_numbers.proofs.Numbers as numbers
use Rattle.java_class_numbers.proofs.laws.one_order.Goals as goal

pub returns-clause-rows : goal.returns-clause-rows
returns-clause-rows c = numbers.rows_long

pub returns-clause-places : goal.returns-clause-places
returns-clause-places c = numbers.places_long

pub returns-clause-headings : goal.returns-clause-headings
returns-clause-headings c = numbers.headings_long

pub returns-clause-table : goal.returns-clause-table
returns-clause-table c = numbers.table_long

use Rattle.java_class_numbers.proofs.Tables as tables
use Rattle.java_class_numbers.proofs.laws.places_are.Goals as goal

pub returns : goal.returns
returns c = tables.places_are

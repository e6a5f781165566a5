use Rattle.java_class_numbers.proofs.Numbers as numbers
use Rattle.java_class_numbers.proofs.laws.one_class.Goals as goal

pub returns-clause-some : goal.returns-clause-some
returns-clause-some c = numbers.one_class

pub returns-clause-one : goal.returns-clause-one
returns-clause-one c = numbers.same_class

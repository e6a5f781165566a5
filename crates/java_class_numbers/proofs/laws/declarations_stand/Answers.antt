use Rattle.java_class_numbers.proofs.Standing as standing
use Rattle.java_class_numbers.proofs.laws.declarations_stand.Goals as goal

pub returns-clause-stand : goal.returns-clause-stand
returns-clause-stand c = standing.declarations_stand

pub returns-clause-all : goal.returns-clause-all
returns-clause-all c = standing.all_declared

use Rattle.java_lib.proofs.Facts.{above_is_class, topmost, under_object}
use Rattle.java_lib.proofs.laws.superclasses.Goals as goal

pub returns-clause-stands : goal.returns-clause-stands
returns-clause-stands c = above_is_class

pub returns-clause-topmost : goal.returns-clause-topmost
returns-clause-topmost c = topmost

pub returns-clause-chain : goal.returns-clause-chain
returns-clause-chain c = under_object

use Rattle.java_operators.proofs.Promotion.{least, takes_both}
use Rattle.java_operators.proofs.laws.promotion_is_least.Goals as goal

pub returns-clause-takes : goal.returns-clause-takes
returns-clause-takes c = takes_both

pub returns-clause-least : goal.returns-clause-least
returns-clause-least c = least

use Rattle.java_keywords.proofs.KeywordTexts.{found, only}
use Rattle.java_keywords.proofs.laws.keywords.Goals as goal

pub returns-clause-found : goal.returns-clause-found
returns-clause-found c = found

pub returns-clause-only : goal.returns-clause-only
returns-clause-only c = only

use Rattle.meanings.proofs.Words.{no_keyword_stands_bare}
use Rattle.meanings.proofs.laws.no_keyword_stands_bare.Goals as goal

pub returns : goal.returns
returns c = no_keyword_stands_bare

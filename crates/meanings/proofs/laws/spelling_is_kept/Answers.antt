use Rattle.meanings.proofs.Typed.{spelling_is_kept}
use Rattle.meanings.proofs.laws.spelling_is_kept.Goals as goal

pub returns : goal.returns
returns c = spelling_is_kept

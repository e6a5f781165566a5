use Rattle.meanings.proofs.Typed.{types_are_kept}
use Rattle.meanings.proofs.laws.types_are_kept.Goals as goal

pub returns : goal.returns
returns c = types_are_kept

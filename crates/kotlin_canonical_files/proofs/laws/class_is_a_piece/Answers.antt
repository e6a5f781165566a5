use Rattle.kotlin_canonical_files.proofs.Cuts.{class_cut}
use Rattle.kotlin_canonical_files.proofs.laws.class_is_a_piece.Goals as goal

pub returns : goal.returns
returns s = λ c piece text rest has. class_cut c piece text rest has

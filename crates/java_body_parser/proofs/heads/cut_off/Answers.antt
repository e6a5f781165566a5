use Rattle.java_body_parser.proofs.Fits.{cut_given}
use Rattle.java_body_parser.proofs.heads.cut_off.Goals as goal

pub returns : goal.returns
returns c = cut_given _ _ _ c.requires c.cut.ensures

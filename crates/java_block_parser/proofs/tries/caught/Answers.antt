use Rattle.java_block_parser.proofs.Sizes.{caught_fits}
use Rattle.java_block_parser.proofs.tries.caught.Goals as goal

pub returns : goal.returns
returns c = caught_fits _ _ _ c.typed_step.ensures

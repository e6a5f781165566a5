use Rattle.std.proofs.Common.{length}
use Rattle.java_body_names.proofs.frames.+may_break.Given as goal

abbrev pub decreases-may_break : goal.decreases-may_break
decreases-may_break l = length l.frames.now

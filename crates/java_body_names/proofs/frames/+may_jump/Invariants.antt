use Rattle.std.proofs.Common.{length}
use Rattle.java_body_names.proofs.frames.+may_jump.Given as goal

abbrev pub decreases-may_jump : goal.decreases-may_jump
decreases-may_jump l = length l.frames.now

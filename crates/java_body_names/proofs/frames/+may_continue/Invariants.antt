use Rattle.std.proofs.Common.{length}
use Rattle.java_body_names.proofs.frames.+may_continue.Given as goal

abbrev pub decreases-may_continue : goal.decreases-may_continue
decreases-may_continue l = length l.frames.now

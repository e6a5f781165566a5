use Rattle.std.proofs.Common.{length}
use Rattle.java_signatures.proofs.erasure.+bound_of.Given as goal

abbrev pub decreases-bound_of : goal.decreases-bound_of
decreases-bound_of l = length l.params.now

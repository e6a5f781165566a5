use Rattle.std.proofs.Common.{length}
use Rattle.java_surroundings.proofs.answers.+first_class.Given as goal

abbrev pub decreases-first_class : goal.decreases-first_class
decreases-first_class l = length l.xs.now

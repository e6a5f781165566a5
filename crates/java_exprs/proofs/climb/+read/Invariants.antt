use Rattle.java_exprs.proofs.climb.+read.Given as goal

abbrev pub decreases-read : goal.decreases-read
decreases-read l = l.depth

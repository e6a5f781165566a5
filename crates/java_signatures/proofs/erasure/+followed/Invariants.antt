use Rattle.java_signatures.proofs.erasure.+followed.Given as goal

abbrev pub decreases-followed : goal.decreases-followed
decreases-followed l = l.steps

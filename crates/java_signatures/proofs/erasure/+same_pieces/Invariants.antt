use Rattle.std.proofs.Common.{length}
use Rattle.java_signatures.proofs.erasure.+same_pieces.Given as goal

abbrev pub decreases-same_pieces : goal.decreases-same_pieces
decreases-same_pieces l = length l.xs.now

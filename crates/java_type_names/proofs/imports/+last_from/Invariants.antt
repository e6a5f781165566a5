use Rattle.std.proofs.Common.{length}
use Rattle.java_type_names.proofs.imports.+last_from.Given as goal

abbrev pub decreases-last_from : goal.decreases-last_from
decreases-last_from l = length l.xs.now

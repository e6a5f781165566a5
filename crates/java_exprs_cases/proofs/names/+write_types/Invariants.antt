use Rattle.std.proofs.Common.{◌+◌, ◌*◌}
use Rattle.java_exprs_cases.proofs.names.+write_types.Given as goal

abbrev pub decreases-put_type_within : goal.decreases-put_type_within
decreases-put_type_within l = 2 * l.room

abbrev pub decreases-put_types : goal.decreases-put_types
decreases-put_types l = 2 * l.room + 1

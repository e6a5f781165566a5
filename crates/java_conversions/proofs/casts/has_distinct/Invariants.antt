use Rattle.std.proofs.Common.{◌≡◌, length}
use Rattle.java_type_relations.specs.Casts.{has_distinct}
use Rattle.java_conversions.proofs.casts.has_distinct.Given as goal

abbrev pub invariant-loop-xs_left : goal.invariant-loop-xs_left
invariant-loop-xs_left l = has_distinct l.xs_left l.ys_left ≡ has_distinct l.xs l.ys

abbrev pub decreases-loop-xs_left : goal.decreases-loop-xs_left
decreases-loop-xs_left l = length l.xs_left

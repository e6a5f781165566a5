use Rattle.std.proofs.Common.{◌≡◌, length}
use Rattle.java_type_relations.specs.Supers.{next_from, next_level}
use Rattle.java_conversions.proofs.supers.next_level.Given as goal

abbrev pub invariant-loop-rest : goal.invariant-loop-rest
invariant-loop-rest l = next_from l.heads l.found l.rest ≡ next_level l.heads l.level

abbrev pub decreases-loop-rest : goal.decreases-loop-rest
decreases-loop-rest l = length l.rest

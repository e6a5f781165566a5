use Rattle.std.proofs.Common.{◌≡◌, length, find}
use Rattle.java_type_relations.specs.Supers.{is_sought}
use Rattle.java_conversions.proofs.supers.first_sought.Given as goal

abbrev pub invariant-loop-rest : goal.invariant-loop-rest
invariant-loop-rest l = find (is_sought l.sought) l.rest ≡ find (is_sought l.sought) l.level

abbrev pub decreases-loop-rest : goal.decreases-loop-rest
decreases-loop-rest l = length l.rest

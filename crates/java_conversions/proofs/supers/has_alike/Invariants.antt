use Rattle.std.proofs.Common.{◌≡◌, length}
use Rattle.std.specs.List.{list_any}
use Rattle.java_type_relations.specs.Supers.{is_alike}
use Rattle.java_conversions.proofs.supers.has_alike.Given as goal

abbrev pub invariant-loop-rest : goal.invariant-loop-rest
invariant-loop-rest l = list_any (is_alike l.x) l.rest ≡ list_any (is_alike l.x) l.found

abbrev pub decreases-loop-rest : goal.decreases-loop-rest
decreases-loop-rest l = length l.rest

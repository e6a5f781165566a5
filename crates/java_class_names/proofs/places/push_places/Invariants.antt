use Rattle.std.proofs.Common.{◌≡◌, ◌++◌, drop}
use Rattle.java_class_names.specs.Places.{places_from}
use Rattle.java_class_names.proofs.places.push_places.Given as goal

abbrev pub invariant-loop-top : goal.invariant-loop-top
invariant-loop-top l = l.out ++ places_from l.unit l.top (drop l.top l.xs) ≡ l.fn.out ++ places_from l.unit 0 l.xs

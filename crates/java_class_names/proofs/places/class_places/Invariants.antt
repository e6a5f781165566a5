use Rattle.std.proofs.Common.{◌≡◌, ◌++◌, drop}
use Rattle.java_class_names.specs.Places.{class_places, units_from}
use Rattle.java_class_names.proofs.places.class_places.Given as goal

abbrev pub invariant-loop-number : goal.invariant-loop-number
invariant-loop-number l = l.out ++ units_from l.number (drop l.number l.units) ≡ class_places l.units

use Rattle.std.proofs.Common.{◌≡◌, ◌++◌, map, drop}
use Rattle.java_classes.specs.Classes.{unit_package, packages}
use Rattle.java_classes.proofs.homes.declared_packages.Given as goal

abbrev pub invariant-loop-unit : goal.invariant-loop-unit
invariant-loop-unit l = l.out ++ map unit_package (drop l.unit-index l.units) ≡ packages l.units

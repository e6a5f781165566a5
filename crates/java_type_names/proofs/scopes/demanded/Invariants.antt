use Rattle.std.proofs.Common.{◌≡◌, drop}
use Rattle.java_type_names.specs.Scopes.{demanded_from, demanded}
use Rattle.java_type_names.proofs.scopes.demanded.Given as goal

abbrev pub invariant-loop-home : goal.invariant-loop-home
invariant-loop-home l = demanded_from l.rows l.from l.name l.found (drop l.home-index l.demands) ≡ demanded l.rows l.from l.name l.demands

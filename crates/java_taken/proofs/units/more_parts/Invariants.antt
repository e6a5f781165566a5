use Rattle.std.proofs.Common.{◌≡◌, drop}
use Rattle.java_taken.specs.Judged.{continued}
use Rattle.java_taken.specs.Units.{parts_of}
use Rattle.java_taken.proofs.units.more_parts.Given as goal

abbrev pub invariant-loop-x : goal.invariant-loop-x
invariant-loop-x l = continued l.found (parts_of (drop l.x-index l.xs)) ≡ continued l.fn.found (parts_of l.xs)

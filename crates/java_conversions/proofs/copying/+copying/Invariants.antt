use Rattle.std.proofs.Common.{◌≡◌, take}
use Rattle.java_conversions.proofs.copying.+copying.Given as goal

abbrev pub invariant-copy_types-loop-x : goal.invariant-copy_types-loop-x
invariant-copy_types-loop-x l = l.found ≡ take l.x-index l.xs

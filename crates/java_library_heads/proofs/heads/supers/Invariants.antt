use Rattle.std.proofs.Common.{◌≡◌, map, take}
use Rattle.java_library_heads.specs.Rows.{super_of}
use Rattle.java_library_heads.proofs.heads.supers.Given as goal

abbrev pub invariant-loop-row : goal.invariant-loop-row
invariant-loop-row l = l.found ≡ map (super_of l.own) (take l.row-index l.rows)

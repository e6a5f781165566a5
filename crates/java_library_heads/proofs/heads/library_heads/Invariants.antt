use Rattle.std.proofs.Common.{◌≡◌, map, take}
use Rattle.java_library_heads.specs.Rows.{head_of}
use Rattle.java_library_heads.proofs.heads.library_heads.Given as goal

abbrev pub invariant-loop-row : goal.invariant-loop-row
invariant-loop-row l = l.found ≡ map head_of (take l.row-index l.row-items)

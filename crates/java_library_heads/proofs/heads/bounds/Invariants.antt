use Rattle.std.proofs.Common.{◌≡◌, map, take}
use Rattle.java_library_heads.specs.LibraryHeads.{bound_at}
use Rattle.java_library_heads.proofs.heads.bounds.Given as goal

abbrev pub invariant-loop-place : goal.invariant-loop-place
invariant-loop-place l = l.found ≡ map bound_at (take l.place-index l.places)

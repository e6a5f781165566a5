use Rattle.std.proofs.Common.{◌≡◌, map, take}
use Rattle.java_typed.specs.declared.types.TType.TheVariants as t
use Rattle.java_library_heads.proofs.heads.parameters.Given as goal

abbrev pub invariant-loop-place : goal.invariant-loop-place
invariant-loop-place l = l.found ≡ map (t.Variable l.own) (take l.place-index l.places)

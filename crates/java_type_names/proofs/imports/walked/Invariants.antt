use Rattle.std.proofs.Common.{◌≡◌, drop}
use Rattle.java_type_names.specs.Imports.{walked}
use Rattle.java_type_names.proofs.imports.walked.Given as goal

abbrev pub invariant-loop-x : goal.invariant-loop-x
invariant-loop-x l = walked l.world l.from l.text l.place (drop l.x-index l.xs) ≡ walked l.fn.world l.fn.from l.fn.text l.fn.place l.fn.xs

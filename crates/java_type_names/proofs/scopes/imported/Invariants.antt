use Rattle.std.proofs.Common.{◌≡◌, drop}
use Rattle.java_type_names.specs.Scopes.{single}
use Rattle.java_type_names.proofs.scopes.imported.Given as goal

abbrev pub invariant-loop-x : goal.invariant-loop-x
invariant-loop-x l = single l.name (drop l.x-index l.singles) ≡ single l.name l.singles

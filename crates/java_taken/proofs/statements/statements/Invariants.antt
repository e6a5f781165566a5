use Rattle.std.proofs.Common.{◌≡◌, [], drop}
use Rattle.java_taken.specs.Judged.{continued}
use Rattle.java_taken.specs.Statements.{statements}
use Rattle.java_taken.proofs.statements.statements.Given as goal

abbrev pub invariant-loop-x : goal.invariant-loop-x
invariant-loop-x l = continued l.found (statements l.classes l.parameter l.names (drop l.x-index l.xs)) ≡ statements l.classes l.parameter [] l.xs

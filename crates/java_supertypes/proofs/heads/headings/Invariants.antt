use Rattle.std.proofs.Common.{◌≡◌, ◌++◌, drop}
use Rattle.java_supertypes.specs.Supertypes.{headings_from, headings}
use Rattle.java_supertypes.proofs.heads.headings.Given as goal

abbrev pub invariant-loop-number : goal.invariant-loop-number
invariant-loop-number l = l.out ++ headings_from l.world l.scopes l.number (drop l.number l.units) ≡ headings l.world l.scopes l.units

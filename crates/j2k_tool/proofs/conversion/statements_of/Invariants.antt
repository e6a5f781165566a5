use Rattle.std.proofs.Common.{◌≡◌, map, take}
use Rattle.meanings.specs.Taken.{statement}
use Rattle.meanings.specs.Convert.{statement_of}
use Rattle.j2k_tool.proofs.conversion.statements_of.Given as goal

abbrev pub invariant-loop-statement : goal.invariant-loop-statement
invariant-loop-statement l = l.made ≡ map statement_of (map statement (take l.statement-index l.statements))

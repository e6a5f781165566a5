use Rattle.std.proofs.Common.{◌≡◌, ◌++◌, take}
use Rattle.std.specs.List.{flat_map}
use Rattle.meanings.specs.KText.{statement_text}
use Rattle.j2k_tool.proofs.printing.push_statements.Given as goal

abbrev pub invariant-loop-statement : goal.invariant-loop-statement
invariant-loop-statement l = l.out ≡ l.fn.out ++ flat_map statement_text (take l.statement-index l.statements)

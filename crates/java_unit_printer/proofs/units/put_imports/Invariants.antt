use Rattle.std.proofs.Common.{◌≡◌, ◌++◌, length, map}
use Rattle.java_member_grammar.specs.Heads.{import_tokens}
use Rattle.java_expr_printer.specs.Shown.{shown}
use Rattle.java_unit_grammar.specs.Tokens.{joined}
use Rattle.java_unit_printer.proofs.units.put_imports.Given as goal

abbrev pub invariant-loop-items : goal.invariant-loop-items
invariant-loop-items l = shown l.out.items ++ joined (map import_tokens l.items) ≡ shown l.fn.out.items ++ joined (map import_tokens l.fn.items)

abbrev pub decreases-loop-items : goal.decreases-loop-items
decreases-loop-items l = length l.items

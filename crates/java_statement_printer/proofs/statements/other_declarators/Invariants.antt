use Rattle.std.proofs.Common.{◌≡◌, ◌++◌, length, map}
use Rattle.java_tree.specs.Trees.{more_tokens}
use Rattle.java_expr_printer.specs.Shown.{shown}
use Rattle.java_statement_grammar.specs.Heads.{declarator_tokens}
use Rattle.java_statement_printer.proofs.statements.other_declarators.Given as goal

abbrev pub invariant-loop-commas : goal.invariant-loop-commas
invariant-loop-commas l = shown l.out.items ++ more_tokens l.commas (map declarator_tokens l.items) ≡ shown l.fn.out.items ++ more_tokens l.fn.commas (map declarator_tokens l.fn.items)

abbrev pub decreases-loop-commas : goal.decreases-loop-commas
decreases-loop-commas l = length l.commas

use Rattle.java_expr_printer.specs.Shown.{shown}
use Rattle.std.proofs.Common.{◌≡◌, ◌++◌, length}
use Rattle.java_tree.specs.Trees as s
use Rattle.java_expr_printer.proofs.writing.put_dotted.Given as goal

abbrev pub invariant-loop-rest : goal.invariant-loop-rest
invariant-loop-rest l = shown l.out.items ++ s.dotted_tokens l.rest ≡ shown l.fn.out.items ++ s.dotted_tokens l.fn.rest

abbrev pub decreases-loop-rest : goal.decreases-loop-rest
decreases-loop-rest l = length l.rest

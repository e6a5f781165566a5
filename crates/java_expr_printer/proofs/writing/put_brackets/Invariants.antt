use Rattle.java_expr_printer.specs.Shown.{shown}
use Rattle.std.proofs.Common.{◌≡◌, ◌++◌, length}
use Rattle.java_tree.specs.Trees as s
use Rattle.java_expr_printer.proofs.writing.put_brackets.Given as goal

abbrev pub invariant-loop-pairs : goal.invariant-loop-pairs
invariant-loop-pairs l = shown l.out.items ++ s.brackets_tokens l.pairs ≡ shown l.fn.out.items ++ s.brackets_tokens l.fn.pairs

abbrev pub decreases-loop-pairs : goal.decreases-loop-pairs
decreases-loop-pairs l = length l.pairs

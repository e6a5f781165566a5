use Rattle.java_tree.specs.Seen.{seen, expanded}
use Rattle.java_expr_printer.specs.Shown.{shown}
use Rattle.std.proofs.Common.{◌≡◌, ◌++◌, length}
use Rattle.java_expr_printer.proofs.expanding.expand.Given as goal

abbrev pub invariant-loop-text : goal.invariant-loop-text
invariant-loop-text l = seen l.out.items ++ expanded (seen l.file) (shown l.text) ≡ seen l.fn.out.items ++ expanded (seen l.fn.file) (shown l.fn.text)

abbrev pub decreases-loop-text : goal.decreases-loop-text
decreases-loop-text l = length l.text

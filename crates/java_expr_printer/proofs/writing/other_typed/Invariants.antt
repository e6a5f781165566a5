use Rattle.java_expr_printer.specs.Shown.{shown}
use Rattle.std.proofs.Common.{◌≡◌, ◌++◌, length, map}
use Rattle.java_tree.specs.Trees as s
use Rattle.java_expr_printer.proofs.writing.other_typed.Given as goal

abbrev pub invariant-loop-commas : goal.invariant-loop-commas
invariant-loop-commas l = (shown l.out.items) ++ s.more_tokens l.commas (map s.typed_tokens l.items) ≡ (shown l.fn.out.items) ++ s.more_tokens l.fn.commas (map s.typed_tokens l.fn.items)

abbrev pub decreases-loop-commas : goal.decreases-loop-commas
decreases-loop-commas l = length l.commas

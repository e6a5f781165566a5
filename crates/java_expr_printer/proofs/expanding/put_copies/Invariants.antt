use Rattle.java_tree.specs.Seen.{seen}
use Rattle.std.proofs.Common.{◌≡◌, ◌++◌, length}
use Rattle.java_expr_printer.proofs.expanding.put_copies.Given as goal

abbrev pub invariant-loop-tokens : goal.invariant-loop-tokens
invariant-loop-tokens l = seen l.out.items ++ seen l.tokens ≡ seen l.fn.out.items ++ seen l.fn.tokens

abbrev pub decreases-loop-tokens : goal.decreases-loop-tokens
decreases-loop-tokens l = length l.tokens

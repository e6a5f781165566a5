use Rattle.std.proofs.Common.{◌≡◌, ◌++◌, length}
use Rattle.java_member_grammar.specs.Heads.{modifiers_tokens}
use Rattle.java_expr_printer.specs.Shown.{shown}
use Rattle.java_member_printer.proofs.members.put_modifiers.Given as goal

abbrev pub invariant-loop-items : goal.invariant-loop-items
invariant-loop-items l = shown l.out.items ++ modifiers_tokens l.items ≡ shown l.fn.out.items ++ modifiers_tokens l.fn.items

abbrev pub decreases-loop-items : goal.decreases-loop-items
decreases-loop-items l = length l.items

use Rattle.std.proofs.Common.{◌≡◌, ◌++◌, length, map}
use Rattle.java_tree.specs.Trees.{more_tokens}
use Rattle.java_expr_printer.specs.Shown.{shown}
use Rattle.java_member_grammar.specs.Heads.{constant_tokens}
use Rattle.java_member_printer.proofs.lines.other_constant_list.Given as goal

abbrev pub invariant-loop-commas : goal.invariant-loop-commas
invariant-loop-commas l = shown l.out.items ++ more_tokens l.commas (map constant_tokens l.items) ≡ shown l.fn.out.items ++ more_tokens l.fn.commas (map constant_tokens l.fn.items)

abbrev pub decreases-loop-commas : goal.decreases-loop-commas
decreases-loop-commas l = length l.commas

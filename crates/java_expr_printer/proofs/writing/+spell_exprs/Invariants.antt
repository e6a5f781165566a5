use Rattle.java_expr_printer.specs.Shown.{shown}
use Rattle.std.proofs.Common.{◌≡◌, ◌≤◌, ◌+◌, ◌*◌, ◌++◌, length, map}
use Rattle.java_tree.specs.Trees as s
use Rattle.java_expr_printer.proofs.writing.+spell_exprs.Given as goal

abbrev pub decreases-put_expr : goal.decreases-put_expr
decreases-put_expr l = 5 * s.depth l.x.now + 1

abbrev pub decreases-put_prefixed : goal.decreases-put_prefixed
decreases-put_prefixed l = 5 * s.depth l.x.now

abbrev pub decreases-put_access : goal.decreases-put_access
decreases-put_access l = 5 * s.depth l.x.now

abbrev pub decreases-put_joined : goal.decreases-put_joined
decreases-put_joined l = 5 * s.depth l.x.now

abbrev pub decreases-put_lambda : goal.decreases-put_lambda
decreases-put_lambda l = 5 * s.depth l.x.now

abbrev pub decreases-put_made : goal.decreases-put_made
decreases-put_made l = 5 * s.depth l.x.now

abbrev pub decreases-put_args : goal.decreases-put_args
decreases-put_args l = 5 * s.deepest (map s.depth l.items.now) + 4

abbrev pub decreases-put_braces : goal.decreases-put_braces
decreases-put_braces l = 5 * s.deepest (map s.depth l.items.now) + 4

abbrev pub decreases-put_list : goal.decreases-put_list
decreases-put_list l = 5 * s.deepest (map s.depth l.items.now) + 3

abbrev pub decreases-put_others : goal.decreases-put_others
decreases-put_others l = 5 * s.deepest (map s.depth l.items.now) + 2

abbrev pub invariant-put_others-loop-commas : goal.invariant-put_others-loop-commas
invariant-put_others-loop-commas l = record {
  same : shown l.out.items ++ s.more_tokens l.commas (map s.tokens l.items) ≡ shown l.fn.out.items ++ s.more_tokens l.fn.commas (map s.tokens l.fn.items);
  within : s.deepest (map s.depth l.items) ≤ s.deepest (map s.depth l.fn.items);
}

abbrev pub decreases-put_others-loop-commas : goal.decreases-put_others-loop-commas
decreases-put_others-loop-commas l = length l.commas

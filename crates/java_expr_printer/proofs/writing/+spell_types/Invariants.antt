use Rattle.java_expr_printer.specs.Shown.{shown}
use Rattle.std.proofs.Common.{◌≡◌, ◌≤◌, ◌+◌, ◌*◌, ◌++◌, length, map}
use Rattle.java_tree.specs.Trees as s
use Rattle.java_expr_printer.proofs.writing.+spell_types.Given as goal

abbrev pub decreases-put_type : goal.decreases-put_type
decreases-put_type l = 3 * s.type_depth l.x.now

abbrev pub decreases-put_types : goal.decreases-put_types
decreases-put_types l = 3 * s.deepest (map s.type_depth l.items.now) + 2

abbrev pub decreases-other_types : goal.decreases-other_types
decreases-other_types l = 3 * s.deepest (map s.type_depth l.items.now) + 1

abbrev pub invariant-other_types-loop-commas : goal.invariant-other_types-loop-commas
invariant-other_types-loop-commas l = record {
  same : (shown l.out.items) ++ s.more_tokens l.commas (map s.type_tokens l.items) ≡ (shown l.fn.out.items) ++ s.more_tokens l.fn.commas (map s.type_tokens l.fn.items);
  within : s.deepest (map s.type_depth l.items) ≤ s.deepest (map s.type_depth l.fn.items);
}

abbrev pub decreases-other_types-loop-commas : goal.decreases-other_types-loop-commas
decreases-other_types-loop-commas l = length l.commas

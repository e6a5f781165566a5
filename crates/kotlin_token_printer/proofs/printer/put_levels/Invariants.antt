use Rattle.std.proofs.Common.{◌≡◌, ◌++◌}
use Rattle.kotlin_layout.specs.Layout.{indentation}
use Rattle.kotlin_token_printer.proofs.printer.put_levels.Given as goal

abbrev pub invariant-loop-level : goal.invariant-loop-level
invariant-loop-level l = l.out ≡ l.fn.out ++ indentation l._level-index

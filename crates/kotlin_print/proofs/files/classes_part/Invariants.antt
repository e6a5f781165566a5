use Rattle.std.proofs.Common.{◌≡◌, take}
use Rattle.kotlin_layout.specs.Layout.{laid}
use Rattle.kotlin_layout.specs.Shown.{classes_part}
use Rattle.kotlin_print.proofs.Turns.{still}
use Rattle.kotlin_print.proofs.files.classes_part.Given as goal

abbrev pub invariant-loop-x : goal.invariant-loop-x
invariant-loop-x l = (l.p ≡ laid (classes_part l.is_first (take l.x-index l.list)) l.fn.p) × (l.first ≡ still l.is_first (take l.x-index l.list))

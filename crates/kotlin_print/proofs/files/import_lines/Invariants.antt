use Rattle.std.proofs.Common.{◌≡◌, ◌++◌, ◌*◌, map, take}
use Rattle.kotlin_layout.specs.Layout.{laid}
use Rattle.kotlin_layout.specs.Shown.{import_line}
use Rattle.kotlin_layout.specs.Roles.{joined}
use Rattle.kotlin_print.proofs.files.import_lines.Given as goal

abbrev pub invariant-loop-x : goal.invariant-loop-x
invariant-loop-x l = l.p ≡ laid (joined (map import_line (take l.x-index l.list))) l.fn.p

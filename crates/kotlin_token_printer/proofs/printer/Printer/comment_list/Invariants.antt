use Rattle.std.proofs.Common.{◌≡◌, map, take}
use Rattle.kotlin_layout.specs.Layout.{laid}
use Rattle.kotlin_layout.specs.Roles.{joined}
use Rattle.kotlin_layout.specs.Shown.{comment_line}
use Rattle.kotlin_token_printer.proofs.printer.Printer.comment_list.Given as goal

abbrev pub invariant-loop-x : goal.invariant-loop-x
invariant-loop-x l = l.self ≡ laid (joined (map comment_line (take l.x-index l.list))) l.fn.self

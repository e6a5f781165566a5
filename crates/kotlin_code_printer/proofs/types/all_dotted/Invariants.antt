use Rattle.std.proofs.Common.{◌≡◌, ◌++◌, ◌*◌, map, take}
use Rattle.kotlin_layout.specs.Layout.{laid}
use Rattle.kotlin_layout.specs.Shown.{dotted_roles}
use Rattle.kotlin_layout.specs.Roles.{joined}
use Rattle.kotlin_code_printer.proofs.types.all_dotted.Given as goal

abbrev pub invariant-loop-x : goal.invariant-loop-x
invariant-loop-x l = l.p ≡ laid (joined (map dotted_roles (take l.x-index l.list))) l.fn.p

use Rattle.std.proofs.Common.{◌≡◌, ◌++◌, ◌*◌, map, take}
use Rattle.kotlin_layout.specs.Layout.{laid}
use Rattle.kotlin_layout.specs.Shown.{type_roles}
use Rattle.kotlin_layout.specs.Roles.{comma, listed}
use Rattle.kotlin_layout.proofs.LawsToCite.{is_nil}
use Rattle.kotlin_code_printer.proofs.types.+types.Given as goal

abbrev pub invariant-kinds-loop-x : goal.invariant-kinds-loop-x
invariant-kinds-loop-x l = (l.p ≡ laid (listed comma (map type_roles (take l.x-index l.list))) l.fn.p) × (l.is_first ≡ is_nil (take l.x-index l.list))

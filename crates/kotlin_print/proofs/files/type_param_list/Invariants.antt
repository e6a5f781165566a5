use Rattle.std.proofs.Common.{◌≡◌, ◌++◌, ◌*◌, map, take}
use Rattle.kotlin_layout.specs.Layout.{laid}
use Rattle.kotlin_layout.specs.Shown.{type_param_roles}
use Rattle.kotlin_layout.specs.Roles.{comma, listed}
use Rattle.kotlin_layout.proofs.LawsToCite.{is_nil}
use Rattle.kotlin_print.proofs.files.type_param_list.Given as goal

abbrev pub invariant-loop-x : goal.invariant-loop-x
invariant-loop-x l = (l.p ≡ laid (listed comma (map type_param_roles (take l.x-index l.list))) l.fn.p) × (l.is_first ≡ is_nil (take l.x-index l.list))

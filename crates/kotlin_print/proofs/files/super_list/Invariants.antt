use Rattle.std.proofs.Common.{◌≡◌, ◌++◌, ◌*◌, map, take}
use Rattle.kotlin_layout.specs.Layout.{laid}
use Rattle.kotlin_layout.specs.Shown.{super_roles}
use Rattle.kotlin_layout.specs.Roles.{comma, listed}
use Rattle.kotlin_layout.proofs.LawsToCite.{is_nil}
use Rattle.kotlin_print.proofs.files.super_list.Given as goal

abbrev pub invariant-loop-x : goal.invariant-loop-x
invariant-loop-x l = (l.p ≡ laid (listed comma (map super_roles (take l.x-index l.list))) l.fn.p) × (l.is_first ≡ is_nil (take l.x-index l.list))

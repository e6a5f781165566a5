use Rattle.std.proofs.Common.{◌≡◌, ◌++◌, ◌*◌, map, take}
use Rattle.kotlin_layout.specs.Layout.{laid}
use Rattle.kotlin_layout.specs.Shown.{member_roles}
use Rattle.kotlin_layout.specs.Roles.{lines}
use Rattle.kotlin_print.proofs.members.+members.Given as goal

abbrev pub invariant-member_lines-loop-x : goal.invariant-member_lines-loop-x
invariant-member_lines-loop-x l = l.p ≡ laid (lines (map member_roles (take l.x-index l.list))) l.fn.p

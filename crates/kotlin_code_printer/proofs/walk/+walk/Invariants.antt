use Rattle.std.proofs.Common.{◌≡◌, ◌++◌, ◌*◌, map, take}
use Rattle.kotlin_layout.specs.Layout.{laid}
use Rattle.kotlin_layout.specs.Shown.{argument_roles, choice_roles, branch_roles, catch_roles, statement_roles}
use Rattle.kotlin_layout.specs.Roles.{comma, joined, lines, listed, next}
use Rattle.kotlin_layout.proofs.LawsToCite.{is_nil}
use Rattle.kotlin_code_printer.proofs.walk.+walk.Given as goal

abbrev pub invariant-expressions-loop-x : goal.invariant-expressions-loop-x
invariant-expressions-loop-x l = (l.p ≡ laid (listed comma (map argument_roles (take l.x-index l.list))) l.fn.p) × (l.is_first ≡ is_nil (take l.x-index l.list))

abbrev pub invariant-choices-loop-x : goal.invariant-choices-loop-x
invariant-choices-loop-x l = l.p ≡ laid (lines (map choice_roles (take l.x-index l.list))) l.fn.p

abbrev pub invariant-branches-loop-x : goal.invariant-branches-loop-x
invariant-branches-loop-x l = l.p ≡ laid (lines (map branch_roles (take l.x-index l.list))) l.fn.p

abbrev pub invariant-catches-loop-x : goal.invariant-catches-loop-x
invariant-catches-loop-x l = l.p ≡ laid (joined (map catch_roles (take l.x-index l.list))) l.fn.p

abbrev pub invariant-in_line-loop-x : goal.invariant-in_line-loop-x
invariant-in_line-loop-x l = (l.p ≡ laid (listed next (map statement_roles (take l.x-index l.list))) l.fn.p) × (l.is_first ≡ is_nil (take l.x-index l.list))

abbrev pub invariant-lines-loop-x : goal.invariant-lines-loop-x
invariant-lines-loop-x l = l.p ≡ laid (lines (map statement_roles (take l.x-index l.list))) l.fn.p

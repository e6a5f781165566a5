use Rattle.kotlin_layout.specs.Shown.{argument_roles, choice_roles, branch_roles, catch_roles, statement_roles}
use Rattle.kotlin_layout.specs.Roles.{comma, next}
use Rattle.kotlin_layout.proofs.LawsToCite.{each_more, line_more, one_more}
use Rattle.kotlin_code_printer.proofs.walk.+walk.Goals as goal

pub expressions-loop-x-preserved : goal.expressions-loop-x-preserved
expressions-loop-x-preserved t c = one_more comma argument_roles c.args.list.now c.loop-x.x-index c.x-item.result c.loop-x.is_first c.args.p.now c.loop-x.p _ _ c.loop-x-test.true c.x-item.is c.loop-x.invariant c.in_ok-comma.ensures c.in_ok-expression.ensures

pub choices-loop-x-preserved : goal.choices-loop-x-preserved
choices-loop-x-preserved t c = line_more choice_roles c.args.list.now c.loop-x.x-index c.x-item.result c.args.p.now c.loop-x.p _ _ c.loop-x-test.true c.x-item.is c.loop-x.invariant c.in_ok-line.ensures c.in_ok-choice.ensures

pub branches-loop-x-preserved : goal.branches-loop-x-preserved
branches-loop-x-preserved t c = line_more branch_roles c.args.list.now c.loop-x.x-index c.x-item.result c.args.p.now c.loop-x.p _ _ c.loop-x-test.true c.x-item.is c.loop-x.invariant c.in_ok-line.ensures c.in_ok-branch.ensures

pub catches-loop-x-preserved : goal.catches-loop-x-preserved
catches-loop-x-preserved t c = each_more catch_roles c.args.list.now c.loop-x.x-index c.x-item.result c.args.p.now c.loop-x.p _ c.loop-x-test.true c.x-item.is c.loop-x.invariant c.in_ok-catch.ensures

pub in_line-loop-x-preserved : goal.in_line-loop-x-preserved
in_line-loop-x-preserved t c = one_more next statement_roles c.args.list.now c.loop-x.x-index c.x-item.result c.loop-x.is_first c.args.p.now c.loop-x.p _ _ c.loop-x-test.true c.x-item.is c.loop-x.invariant c.in_ok-next.ensures c.in_ok-statement.ensures

pub lines-loop-x-preserved : goal.lines-loop-x-preserved
lines-loop-x-preserved t c = line_more statement_roles c.args.list.now c.loop-x.x-index c.x-item.result c.args.p.now c.loop-x.p _ _ c.loop-x-test.true c.x-item.is c.loop-x.invariant c.in_ok-line.ensures c.in_ok-statement.ensures

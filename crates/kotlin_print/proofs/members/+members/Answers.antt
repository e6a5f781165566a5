use Rattle.kotlin_layout.specs.Shown.{member_roles}
use Rattle.kotlin_layout.proofs.LawsToCite.{line_more}
use Rattle.kotlin_print.proofs.members.+members.Goals as goal

pub member_lines-loop-x-preserved : goal.member_lines-loop-x-preserved
member_lines-loop-x-preserved t c = line_more member_roles c.args.list.now c.loop-x.x-index c.x-item.result c.args.p.now c.loop-x.p _ _ c.loop-x-test.true c.x-item.is c.loop-x.invariant c.in_ok-line.ensures c.in_ok-member.ensures

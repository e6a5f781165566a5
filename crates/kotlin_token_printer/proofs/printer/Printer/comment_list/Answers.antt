use Rattle.kotlin_layout.specs.Shown.{comment_line}
use Rattle.kotlin_layout.proofs.LawsToCite.{each_more}
use Rattle.kotlin_token_printer.proofs.printer.Printer.comment_list.Goals as goal

pub loop-x-preserved : goal.loop-x-preserved
loop-x-preserved c = each_more comment_line c.args.list.now c.loop-x.x-index c.x-item.result c.args.self.now c.loop-x.self _ c.loop-x-test.true c.x-item.is c.loop-x.invariant c.in_ok-comment.ensures

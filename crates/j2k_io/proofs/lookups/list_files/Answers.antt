use Rattle.j2k_io.proofs.Walks.{listed_step}
use Rattle.j2k_io.proofs.lookups.list_files.Goals as goal

pub loop-entry-preserved : goal.loop-entry-preserved
loop-entry-preserved c =
    listed_step c.args.folder.now c.entries-entry-items.result.now c.loop-entry.entry-index c.entry-item.result c.loop-entry.paths c.push_below.new.paths c.loop-entry-test.true c.entry-item.is c.loop-entry.invariant
    c.in_ok-push_below.ensures

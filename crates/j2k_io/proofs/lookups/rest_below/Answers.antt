use Rattle.std.proofs.Common.{Some, None, ◌∙◌}
use Rattle.j2k_io.proofs.Walks.{below_parts}
use Rattle.j2k_io.proofs.lookups.rest_below.Goals as goal

pub returns-in-Some : goal.returns-in-Some
returns-in-Some c = c.after_slash.ensures ∙ below_parts c.args.folder.now c.args.path.now (Some c.in-Some.after.now) c.in-Some.ensures

pub returns-in-None : goal.returns-in-None
returns-in-None c = below_parts c.args.folder.now c.args.path.now None c.in-None.ensures

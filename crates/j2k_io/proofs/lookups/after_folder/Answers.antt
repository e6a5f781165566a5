use Rattle.j2k_io.proofs.Walks.{strip_text}
use Rattle.j2k_io.proofs.lookups.after_folder.Goals as goal

pub returns : goal.returns
returns c = strip_text c.args.folder.now c.args.path.now c.strip_prefix.result c.strip_prefix.ensures.cases

use Rattle.java_block_parser.proofs.Sizes.{curly_shorter}
use Rattle.java_block_parser.proofs.members.at_curly.Goals as goal

pub returns-clause-shorter : goal.returns-clause-shorter
returns-clause-shorter c = curly_shorter _ _ _ c.before_curly.ensures

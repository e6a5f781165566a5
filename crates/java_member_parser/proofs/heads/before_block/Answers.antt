use Rattle.java_token_cursor.specs.Shown.{shown}
use Rattle.java_member_parser.proofs.Spelled.{block_given}
use Rattle.java_member_parser.proofs.heads.before_block.Goals as goal

pub returns-clause-spelled : goal.returns-clause-spelled
returns-clause-spelled c = block_given c.args.depth c.args.value_depth (shown c.args.pieces.now) c.block_read.result c.block_read.ensures

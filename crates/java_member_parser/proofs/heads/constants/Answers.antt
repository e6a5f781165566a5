use Rattle.java_token_cursor.specs.Shown.{shown}
use Rattle.java_member_parser.proofs.Spelled.{constants_given}
use Rattle.java_member_parser.proofs.heads.constants.Goals as goal

pub returns-clause-spelled : goal.returns-clause-spelled
returns-clause-spelled c = constants_given c.args.depth (shown c.args.pieces.now) c.constants_read.result c.constants_read.ensures

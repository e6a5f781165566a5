use Rattle.java_token_cursor.specs.Shown.{shown}
use Rattle.java_member_parser.proofs.Spelled.{type_given}
use Rattle.java_member_parser.proofs.heads.type_head.Goals as goal

pub returns-clause-spelled : goal.returns-clause-spelled
returns-clause-spelled c = type_given c.args.depth (shown c.args.pieces.now) c.type_head_read.result c.type_head_read.ensures

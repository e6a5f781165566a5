use Rattle.java_token_cursor.specs.Shown.{shown}
use Rattle.java_member_parser.proofs.Spelled.{semicolon_given}
use Rattle.java_member_parser.proofs.heads.before_semicolon.Goals as goal

pub returns-clause-spelled : goal.returns-clause-spelled
returns-clause-spelled c = semicolon_given c.args.depth c.args.value_depth (shown c.args.pieces.now) c.semicolon_read.result c.semicolon_read.ensures

use Rattle.java_token_cursor.specs.Shown.{shown}
use Rattle.java_member_parser.proofs.Spelled.{import_given}
use Rattle.java_member_parser.proofs.heads.import_line.Goals as goal

pub returns-clause-spelled : goal.returns-clause-spelled
returns-clause-spelled c = import_given (shown c.args.pieces.now) c.import_read.result c.import_read.ensures

use Rattle.java_token_cursor.specs.Shown.{shown}
use Rattle.java_member_parser.proofs.Spelled.{package_given}
use Rattle.java_member_parser.proofs.heads.package_line.Goals as goal

pub returns-clause-spelled : goal.returns-clause-spelled
returns-clause-spelled c = package_given (shown c.args.pieces.now) c.package_read.result c.package_read.ensures

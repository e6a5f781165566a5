use Rattle.java_token_cursor.specs.Shown.{shown}
use Rattle.java_statement_parser.proofs.Spelled.{simple_given}
use Rattle.java_statement_parser.proofs.heads.simple.Goals as goal

pub returns-clause-spelled : goal.returns-clause-spelled
returns-clause-spelled c = simple_given c.args.depth (shown c.args.pieces.now) c.simple_read.result c.simple_read.ensures

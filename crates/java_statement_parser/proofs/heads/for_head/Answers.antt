use Rattle.java_token_cursor.specs.Shown.{shown}
use Rattle.java_statement_parser.proofs.Spelled.{for_given}
use Rattle.java_statement_parser.proofs.heads.for_head.Goals as goal

pub returns-clause-spelled : goal.returns-clause-spelled
returns-clause-spelled c = for_given c.args.depth (shown c.args.pieces.now) c.for_read.result c.for_read.ensures

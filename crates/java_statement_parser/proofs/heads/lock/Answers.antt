use Rattle.java_token_cursor.specs.Shown.{shown}
use Rattle.java_statement_parser.proofs.Spelled.{lock_given}
use Rattle.java_statement_parser.proofs.heads.lock.Goals as goal

pub returns-clause-spelled : goal.returns-clause-spelled
returns-clause-spelled c = lock_given c.args.depth (shown c.args.pieces.now) c.lock_read.result c.lock_read.ensures

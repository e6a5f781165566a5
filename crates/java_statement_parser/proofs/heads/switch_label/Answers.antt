use Rattle.java_token_cursor.specs.Shown.{shown}
use Rattle.java_statement_parser.proofs.Spelled.{label_given}
use Rattle.java_statement_parser.proofs.heads.switch_label.Goals as goal

pub returns-clause-spelled : goal.returns-clause-spelled
returns-clause-spelled c = label_given c.args.depth (shown c.args.pieces.now) c.switch_read.result c.switch_read.ensures

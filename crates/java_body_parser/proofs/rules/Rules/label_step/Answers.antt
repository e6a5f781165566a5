use Rattle.std.proofs.Common.{subst}
use Rattle.java_expr_grammar.specs.Reading.{Read}
use Rattle.java_unit_grammar.specs.declared.statements.JCase.{JCase}
use Rattle.java_unit_grammar.specs.Reading as r
use Rattle.java_token_cursor.specs.Shown.{shown}
use Rattle.java_type_parser.specs.Gives.{Gives}
use Rattle.java_block_parser.specs.Asks.{Shorter, found}
use Rattle.java_body_parser.proofs.Cases.{label_is}
use Rattle.java_body_parser.proofs.rules.Rules.label_step.Goals as goal

-- src/labels.rt:110:5
pub returns : goal.returns
returns g c =
    subst (λ (o : Read JCase). Gives found (Shorter c.args.pieces.now) o c.label_case.result)
    (label_is (r.readers c.args.self.now.parts.steps) c.args.self.now.parts.depth (shown c.args.pieces.now)) c.label_case.ensures

use Rattle.std.proofs.Common.{ap, sym, ◌∙◌, subst}
use Rattle.java_tree.specs.declared.tokens.Position.{Position}
use Rattle.java_expr_grammar.specs.Reading.{Read, ◌>>=◌}
use Rattle.java_token_cursor.specs.Heads.{Finds, unclosed}
use Rattle.java_token_cursor.specs.Shown.{shown}
use Rattle.java_token_cursor.proofs.Braces.{inner_is}
use Rattle.java_token_cursor.proofs.head.inner_comma.Goals as goal

pub returns : goal.returns
returns c =
    let same = inner_is (shown c.args.pieces.now) ∙ ap (λ (o : Read Position). o >>= (λ x. unclosed x.0 x.1)) c.in_ok-at.ensures in
    subst (λ (o : Read Position). Finds o c.unclosed.result) (sym same) c.unclosed.ensures

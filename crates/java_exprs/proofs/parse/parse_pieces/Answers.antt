use Rattle.std.proofs.Common.{rules, arith, ◌≡◌, ◌∙◌, ap, sym, subst, []}
use Rattle.std.proofs.lemmas.Grind.{common_steps}
use Rattle.java_tree.specs.Trees.{JSpells}
use Rattle.java_tree.specs.declared.exprs.JExpr.{JExpr}
use Rattle.java_token_cursor.specs.Shown.{shown}
use Rattle.java_exprs.proofs.Parsed.{spelled_whole, shown_none}
use Rattle.java_exprs.proofs.parse.parse_pieces.Goals as goal

pub returns-then-is_empty : goal.returns-then-is_empty
returns-then-is_empty c =
    let none : c.in-Some.rest.now ≡ [] = first_of (search rules, grind (arith, common_steps)) in
    let h = rw c.in-Some.is at c.in_ok-found.ensures in
    subst (λ (x : JExpr). JSpells x (shown c.args.pieces.now)) (sym c.into_inner.ensures)
    (spelled_whole _ _ _ h.0 (ap shown none ∙ shown_none))

use Rattle.java_token_cursor.specs.Shown.{shown}
use Rattle.std.proofs.Common.{◌≡◌, ap, arith, subst, suc, ◌-◌, add-one}
use Rattle.java_expr_grammar.specs.Reading as r
use Rattle.java_type_parser.specs.Gives.{Gives}
use Rattle.java_exprs.specs.Exprs.{ExprFits, expr_found}
use Rattle.java_exprs.proofs.climb.+read.Goals as goal

pub returns-then-depth-eq0 : goal.returns-then-depth-eq0
unfolding r.read
returns-then-depth-eq0 t c = let none : c.args.depth ≡ 0 = omega arith in ap (λ n. r.read n c.args.least (shown c.args.pieces.now)) none

pub returns : goal.returns
unfolding r.read
returns t c =
    let e : suc (c.args.depth - 1) ≡ c.args.depth = omega arith in
    subst (λ n. Gives expr_found (ExprFits n) (r.read n c.args.least (shown c.args.pieces.now)) c.level_read.result) e (rw (add-one (c.args.depth - 1)) at c.level_read.ensures)

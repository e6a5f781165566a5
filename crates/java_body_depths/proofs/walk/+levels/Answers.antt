use Rattle.std.proofs.Common.{rules, ◌≡◌, ◌++◌, length, refl, arith}
use Rattle.java_tree.specs.declared.exprs.JExpr.{JExpr}
use Rattle.java_unit_grammar.specs.Levels.{levels, list_levels}
use Rattle.java_body_depths.specs.Parts.{raised}
use Rattle.java_body_depths.proofs.Raised.{list_done, list_step, list_within}
use Rattle.java_body_depths.proofs.walk.+levels.Goals as goal

pub push_list-loop-items-preserved : goal.push_list-loop-items-preserved
push_list-loop-items-preserved t c = record {
  same = list_step JExpr levels (length c.loop-items.path.items) _ _ c.item-item.result c.loop-items.items.now c.loop-items.found.items _ _
      (omega arith) (search rules) refl (search rules) (search rules) c.loop-items.invariant.same;
  path = search rules;
  within = list_within _ _ c.loop-items.items.now refl c.loop-items.invariant.within;
}

pub push_list-returns-clause-found : goal.push_list-returns-clause-found
push_list-returns-clause-found t c =
    let e : c.loop-items.found.items ++ raised (length c.loop-items.path.items) (list_levels c.loop-items.items.now)
    ≡ c.args.found.now.items ++ raised (length c.args.path.now.items) (list_levels c.args.items.now) = c.loop-items.invariant.same in
    list_done JExpr levels (length c.loop-items.path.items) c.loop-items.items.now c.loop-items.found.items _ (omega arith) e

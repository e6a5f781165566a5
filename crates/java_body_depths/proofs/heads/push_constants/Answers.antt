use Rattle.std.proofs.Common.{length, refl, rules, arith}
use Rattle.java_member_grammar.specs.declared.lines.JConstant.{JConstant}
use Rattle.java_unit_grammar.specs.Levels.{constant_levels}
use Rattle.java_body_depths.proofs.Raised.{list_done, list_step}
use Rattle.java_body_depths.proofs.heads.push_constants.Goals as goal

pub loop-items-preserved : goal.loop-items-preserved
loop-items-preserved c = record {
  same = list_step JConstant constant_levels (length c.loop-items.path.items) _ _ c.item-item.result c.loop-items.items.now c.loop-items.found.items _ _
      (omega arith) (search rules) refl (search rules) (search rules) c.loop-items.invariant.same;
  path = search rules;
}

pub returns : goal.returns
returns c = list_done JConstant constant_levels (length c.loop-items.path.items) c.loop-items.items.now c.loop-items.found.items _ (omega arith) c.loop-items.invariant.same

use Rattle.std.proofs.Common.{length, refl, rules, arith}
use Rattle.java_statement_grammar.specs.declared.declarations.JDeclarator.{JDeclarator}
use Rattle.java_unit_grammar.specs.Standing.{initial_levels}
use Rattle.java_body_depths.proofs.Raised.{list_done, list_step}
use Rattle.java_body_depths.proofs.heads.push_values.Goals as goal

pub loop-names-preserved : goal.loop-names-preserved
loop-names-preserved c = record {
  same = list_step JDeclarator initial_levels (length c.loop-names.path.items) _ _ c.name-item.result c.loop-names.names.now c.loop-names.found.items _ _
      (omega arith) (search rules) refl (search rules) (search rules) c.loop-names.invariant.same;
  path = search rules;
}

pub returns : goal.returns
returns c = list_done JDeclarator initial_levels (length c.loop-names.path.items) c.loop-names.names.now c.loop-names.found.items _ (omega arith) c.loop-names.invariant.same

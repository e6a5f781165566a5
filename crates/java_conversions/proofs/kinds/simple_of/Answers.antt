use Rattle.std.proofs.Common.{rules, ◌≡◌, Some, refl, sym, ◌∙◌}
use Rattle.java_type_relations.specs.Kinds.{simple_of}
use Rattle.java_conversions.proofs.Views.{simple_boolean, simple_number, simple_none}
use Rattle.java_conversions.proofs.kinds.simple_of.Goals as goal

pub returns-in-Boolean : goal.returns-in-Boolean
returns-in-Boolean c = rw c.in-Boolean.is (sym simple_boolean)

pub returns-in-Number : goal.returns-in-Number
returns-in-Number c = rw c.in-Number.is (sym (simple_number c.in-Number.kind))

pub returns-in_default : goal.returns-in_default
returns-in_default c = sym (simple_none c.args.x c.in_default.not-Number c.in_default.not-Boolean)

use Rattle.std.proofs.Common.{◌∙◌}
use Rattle.java_lib.proofs.Naming.{other_package, no_dot, rest_after}
use Rattle.java_lib.proofs.classes.is_qualified.Goals as goal

pub returns-in_default : goal.returns-in_default
returns-in_default c = other_package _ c.as_bytes.result.now c.args.name.now c.args.row.now.key.now c.as_bytes.ensures.value c.in_default.ensures.cases

pub returns-in_default-strip_prefix : goal.returns-in_default-strip_prefix
returns-in_default-strip_prefix c =
    no_dot _ c.as_bytes.result.now c.args.name.now c.args.row.now.key.now c.in-Some.rest.now c.as_bytes.ensures.value c.in-Some.ensures.cases.0 c.in-Some.ensures.cases.1 c.in_default-strip_prefix.ensures.cases

pub returns : goal.returns
returns c =
    c.eq.ensures
    ∙ rest_after _ c.as_bytes.result.now c.args.name.now c.args.row.now.key.now c.as_bytes-2.result.now c.in-Some.rest.now c.in-Some-strip_prefix.simple.now c.as_bytes.ensures.value c.in-Some.ensures.cases.0 c.in-Some.ensures.cases.1 c.in-Some-strip_prefix.ensures.cases.0 c.in-Some-strip_prefix.ensures.cases.1 c.as_bytes-2.ensures.value

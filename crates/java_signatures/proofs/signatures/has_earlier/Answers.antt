use Rattle.std.proofs.Common.{ap, ◌∙◌}
use Rattle.std.specs.List.{list_any}
use Rattle.java_tables.specs.Names.{numbers_of}
use Rattle.java_signatures.specs.Numbers.{is_earlier, numbered}
use Rattle.java_signatures.proofs.Earlier.{earlier_of_name}
use Rattle.java_signatures.proofs.signatures.has_earlier.Goals as goal

pub returns : goal.returns
returns c =
    c.has_same.ensures
    ∙ ap (list_any (is_earlier c.args.xs.now c.args.number c.args.x.now)) (c.named.ensures ∙ c.requires c.as_str.result.now)
    ∙ ap (λ name. list_any (is_earlier c.args.xs.now c.args.number c.args.x.now) (numbers_of name (numbered 0 c.args.xs.now))) c.as_str.ensures
    ∙ earlier_of_name c.args.x.now c.args.number c.args.xs.now

use Rattle.std.proofs.Common.{ap, sym, ◌∙◌}
use Rattle.java_member_grammar.specs.Modifiers.{of_top_enum}
use Rattle.java_modifier_rules.specs.Fits.{in_place}
use Rattle.java_modifier_rules.proofs.Lists.{home_is}
use Rattle.java_modifier_rules.proofs.modifiers.of_enum.Goals as goal

pub returns : goal.returns
returns c =
    c.in_place.ensures ∙ ap (in_place c.args.place c.args.kind) c.of_top_enum.ensures ∙ sym (home_is c.args.place of_top_enum c.args.kind)

use Rattle.std.proofs.Common.{◌≡◌, ◌-◌, Some, sym, ap, ◌∙◌}
use Rattle.std.specs.Option.{option_copied}
use Rattle.java_typed.specs.Reading.{shown}
use Rattle.java_type_relations.specs.Heads.{bound_in}
use Rattle.java_type_relations.specs.Casts.{upper}
use Rattle.java_conversions.proofs.Climbs.{upper_on}
use Rattle.java_conversions.proofs.casts.upper.Goals as goal

pub loop-steps-preserved : goal.loop-steps-preserved
loop-steps-preserved c =
    let bound : bound_in c.args.heads.now c.in-Variable.class c.in-Variable.place ≡ Some c.in-Some.bound.now = sym c.bound_in.ensures ∙ ap option_copied c.in-Some.is in
    ap (upper c.args.heads.now (c.loop-steps.steps - 1)) c.viewed-found.ensures
    ∙ upper_on c.args.heads.now c.loop-steps.steps c.in-Variable.class c.in-Variable.place c.in-Some.bound.now c.loop-steps-test.true bound
    ∙ ap (λ v. upper c.args.heads.now c.loop-steps.steps (shown v)) (sym c.in-Variable.is)
    ∙ c.loop-steps.invariant

use Rattle.std.proofs.Common.{refl}
use Rattle.j2k_tool.specs.declared.status.Status.TheVariants.{TooLarge}
use Rattle.j2k_tool.specs.Messages.{message_text}
use Rattle.j2k_tool.proofs.Outcomes.{excess_answered, fault_answered}
use Rattle.j2k_tool.proofs.answers.convert_loaded.Goals as goal

pub returns-in_ok-too_large_text-in-TooLarge-clause-answered : goal.returns-in_ok-too_large_text-in-TooLarge-clause-answered
returns-in_ok-too_large_text-in-TooLarge-clause-answered g c =
    excess_answered c.args.dst.now c.args.loaded.now c.in-TooLarge.excess TooLarge c.in_ok-too_large_text-in-TooLarge.field-0 (g.D.Disk.held c.args.disk.now) (g.D.Disk.held c.args.disk.now)
    c.in-TooLarge.is refl c.in_ok-too_large_text-in-TooLarge.ensures refl

pub returns-in_ok-refusal_of-in-Refused-clause-answered : goal.returns-in_ok-refusal_of-in-Refused-clause-answered
returns-in_ok-refusal_of-in-Refused-clause-answered g c =
    fault_answered c.args.dst.now c.args.loaded.now c.in-Refused.fault c.in_ok-refusal_of-in-Refused.field-0.status (message_text c.in_ok-refusal_of-in-Refused.field-0.message) (g.D.Disk.held c.args.disk.now) (g.D.Disk.held c.args.disk.now)
    c.in-Refused.is c.in_ok-refusal_of-in-Refused.ensures.0 c.in_ok-refusal_of-in-Refused.ensures.1 refl
